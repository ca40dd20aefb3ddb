-- A line is appended word by word.
use Rattle.std.proofs.Common.{◌≡◌, refl, sym, ap, subst, ◌∙◌, ℕ, ◌+◌, ◌<◌, ◌≤◌, Bool, true, false, List, [], ◌∷◌, ◌++◌}
use Rattle.std.proofs.Common.{length, take, drop, get_or, map, arith, append_assoc}
use Rattle.std.proofs.Math.Numerals.{add-one}
use Rattle.std.proofs.Math.Seq.{drop-cons}
use Rattle.std.proofs.lemmas.List.{length-append, take-take, take_at, take_all, drop_all}
use Rattle.xb_values.specs.Buffers.{Buffer, Appends}
use Rattle.xb_values.specs.Texts.{line}
use Rattle.table_print.specs.declared.line.Word.{Word}
use Rattle.table_print.specs.Pushes.{AppendsFront, Finishes, word_view, words_left}

-- a line by its first word
line-cons : (word : List ℕ) (words : List (List ℕ)) → line (word ∷ words) ≡ word ++ words_left words
line-cons word [] = refl
line-cons word (next ∷ words) =
    append_assoc word (32 ∷ _) (10 ∷ []) ∙ ap (λ t. word ++ 32 ∷ t) (line-cons next words)

-- what is appended or not is appended as far as it goes
AppendsFront-appends : (done : Bool) (old new : Buffer) (text : List ℕ) → Appends done old new text
    → AppendsFront done old new text
AppendsFront-appends true old new text a = record {
  fits = a.fits;
  result = λ yes. a.result;
  front = ap (λ (b : Buffer). take (length old.octets) b.octets) a.result
      ∙ take_at old.octets text (length old.octets) refl;
  longer = omega (arith, ap (λ (b : Buffer). length b.octets) a.result, length-append old.octets text);
  capacity = ap (λ (b : Buffer). b.capacity) a.result;
}
AppendsFront-appends false old new text a = record {
  fits = a.fits;
  result = λ yes. let wrong : false ≡ true = yes in absurd (cc wrong);
  front = ap (λ (b : Buffer). take (length old.octets) b.octets) a.result
      ∙ take_all (length old.octets) old.octets (omega arith);
  longer = omega (arith, ap (λ (b : Buffer). length b.octets) a.result);
  capacity = ap (λ (b : Buffer). b.capacity) a.result;
}

-- a text after one that fits
AppendsFront-then : (done : Bool) (old mid new : Buffer) (s t : List ℕ) → AppendsFront true old mid s
    → AppendsFront done mid new t → AppendsFront done old new (s ++ t)
AppendsFront-then done old mid new s t a b =
    let is : mid ≡ record old { octets = old.octets ++ s } = a.result refl in
    let size : length mid.octets ≡ length old.octets + length s =
    ap (λ (x : Buffer). length x.octets) is ∙ length-append old.octets s in
    let whole = length-append s t in
    record {
      fits = (
        λ yes. omega (arith, b.fits.0 yes, a.capacity, size, whole),
        λ fits. b.fits.1 (omega (arith, fits, a.capacity, size, whole)),
      );
      result = λ yes. b.result yes
          ∙ ap (λ (x : Buffer). record x { octets = x.octets ++ t }) is
          ∙ ap (λ o. record old { octets = o }) (append_assoc old.octets s t);
      front = sym (take-take (length old.octets) (length mid.octets) new.octets a.longer)
          ∙ ap (take (length old.octets)) b.front
          ∙ a.front;
      longer = omega (arith, a.longer, b.longer);
      capacity = b.capacity ∙ a.capacity;
    }

-- a text that begins with one that does not fit
AppendsFront-stop : (old new : Buffer) (s t : List ℕ) → AppendsFront false old new s
    → AppendsFront false old new (s ++ t)
AppendsFront-stop old new s t a = record {
  fits = (
    λ yes. let wrong : false ≡ true = yes in absurd (cc wrong),
    λ fits. a.fits.1 (omega (arith, fits, length-append s t)),
  );
  result = λ yes. let wrong : false ≡ true = yes in absurd (cc wrong);
  front = a.front;
  longer = a.longer;
  capacity = a.capacity;
}

-- a space and a word, of which the space does not fit
pub next_stopped : (old mid : Buffer) (word : List ℕ) → Appends false old mid (32 ∷ [])
    → AppendsFront false old mid (32 ∷ word)
next_stopped old mid word a =
    AppendsFront-stop old mid (32 ∷ []) word (AppendsFront-appends false old mid (32 ∷ []) a)

-- a space and a word after it
pub next_pushed : (done : Bool) (old mid new : Buffer) (word : List ℕ) → Appends true old mid (32 ∷ [])
    → Appends done mid new word → AppendsFront done old new (32 ∷ word)
next_pushed done old mid new word a b =
    AppendsFront-then done old mid new (32 ∷ []) word (AppendsFront-appends true old mid (32 ∷ []) a)
    (AppendsFront-appends done mid new word b)

pub ruleset next_word = (next_stopped, next_pushed)

-- a line whose first word does not fit
pub line_stopped : (old mid : Buffer) (first : List ℕ) (words : List (List ℕ)) → Appends false old mid first
    → AppendsFront false old mid (line (first ∷ words))
line_stopped old mid first words a =
    subst (AppendsFront false old mid) (sym (line-cons first words))
    (AppendsFront-stop old mid first (words_left words) (AppendsFront-appends false old mid first a))

-- a line whose first word is appended
pub line_begun : (old mid : Buffer) (first : List ℕ) (words : List (List ℕ)) → Appends true old mid first
    → Finishes mid (words_left words) old (line (first ∷ words))
line_begun old mid first words a done new left =
    subst (AppendsFront done old new) (sym (line-cons first words))
    (AppendsFront-then done old mid new first (words_left words) (AppendsFront-appends true old mid first a) left)

-- the words that are left begin with the one at an index
next_words : (others : List Word) (i : ℕ) (w : Word) → i < length others → w ≡ get_or others i w
    → words_left (map word_view (drop i others))
    ≡ (32 ∷ word_view w) ++ words_left (map word_view (drop (i + 1) others))
next_words others i w inside is =
    ap (λ ws. words_left (map word_view ws)) (drop-cons others i w inside)
    ∙ ap (λ k. (32 ∷ word_view (get_or others i w)) ++ words_left (map word_view (drop k others)))
    (sym (add-one i))
    ∙ ap (λ v. (32 ∷ word_view v) ++ words_left (map word_view (drop (i + 1) others))) (sym is)

module _ (others : List Word) (i : ℕ) (w : Word) (old out mid : Buffer) (text : List ℕ)
    (inside : i < length others) (is : w ≡ get_or others i w)
    (all : Finishes out (words_left (map word_view (drop i others))) old text) where
  -- a word that does not fit
  pub word_stopped : AppendsFront false out mid (32 ∷ word_view w) → AppendsFront false old mid text
  word_stopped a =
      all false mid (subst (AppendsFront false out mid) (sym (next_words others i w inside is))
      (AppendsFront-stop out mid (32 ∷ word_view w) (words_left (map word_view (drop (i + 1) others))) a))

  -- a word that is appended
  pub word_taken : AppendsFront true out mid (32 ∷ word_view w)
      → Finishes mid (words_left (map word_view (drop (i + 1) others))) old text
  word_taken a done new left =
      all done new (subst (AppendsFront done out new) (sym (next_words others i w inside is))
      (AppendsFront-then done out mid new (32 ∷ word_view w)
      (words_left (map word_view (drop (i + 1) others))) a left))

-- the end of a line
pub line_ended : (done : Bool) (others : List Word) (i : ℕ) (old out new : Buffer) (text : List ℕ) → length others ≤ i
    → Finishes out (words_left (map word_view (drop i others))) old text → Appends done out new (10 ∷ [])
    → AppendsFront done old new text
line_ended done others i old out new text end all a =
    all done new (subst (λ ws. AppendsFront done out new (words_left (map word_view ws))) (sym (drop_all i others end))
    (AppendsFront-appends done out new (10 ∷ []) a))

-- without the front of a text that does not fit, nothing changed
pub Appends-restored : (old new back : Buffer) (n : ℕ) (text : List ℕ) → AppendsFront false old new text
    → n ≡ length old.octets → back ≡ record new { octets = take n new.octets } → Appends false old back text
Appends-restored old new back n text a at is = record {
  fits = a.fits;
  result = is
      ∙ ap (λ k. record new { octets = take k new.octets }) at
      ∙ ap (λ o. record new { octets = o }) a.front
      ∙ ap (λ c. record old { capacity = c }) a.capacity;
}

-- and a text that fits was appended
pub Appends-done : (old new : Buffer) (text : List ℕ) → AppendsFront true old new text → Appends true old new text
Appends-done old new text a = record { fits = a.fits; result = a.result refl }

pub ruleset whole_line = (Appends-restored, Appends-done)
