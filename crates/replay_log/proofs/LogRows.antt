-- Worked logs, by evaluation.
use Rattle.std.proofs.Common.{◌≡◌, refl, [], ◌∷◌, ◌++◌, codes}
use Rattle.xb_words.specs.Cut.{cut}
use Rattle.xb_domain.specs.Events.{octets, time, rescan}
use Rattle.replay_log.specs.Lines.{line_of, event_of_words}
use Rattle.replay_log.specs.Logs.{log, log_at, whole_log, bad_line}
use Rattle.replay_log.specs.Readings.{next_at, next_line, next_end}

-- a time that falls is in the second line
falls : log 3 (codes "time 5" ++ 10 ∷ codes "time 4" ++ 10 ∷ []) ≡ record { events = time 5 ∷ []; ending = bad_line 2 }
unfolding cut log_at line_of event_of_words
falls = refl

-- comments and empty lines count as lines, and the last line needs no end
last : log 3 (codes "# x" ++ 10 ∷ 10 ∷ codes "in 1 FFff" ++ 10 ∷ codes "rescan") ≡ record { events = octets 1 (255 ∷ 255 ∷ []) ∷ rescan ∷ []; ending = whole_log }
unfolding cut log_at line_of event_of_words
last = refl

-- a peer that is not configured
not_configured : log 3 (codes "start 4" ++ 10 ∷ []) ≡ record { events = []; ending = bad_line 1 }
unfolding cut log_at line_of event_of_words
not_configured = refl

second : next_at (codes "up 1" ++ 10 ∷ codes "up 2") 5 ≡ next_line (codes "up 2") 9
unfolding next_at
second = refl

past_the_last : next_at (codes "up 1" ++ 10 ∷ []) 5 ≡ next_end
unfolding next_at
past_the_last = refl
