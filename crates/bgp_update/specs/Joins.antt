-- How the parts of an UPDATE join to its body (RFC 4271, section 4.3).
use Rattle.std.specs.Prelude.{◌≡◌, ℕ, ◌+◌, List, ◌++◌, length, take, slice_range}
use Rattle.xb_words.specs.Octets.{two_at}
use Rattle.xb_wire.specs.Messages.{Update}

-- each length field has the length of the part after it, and fields and parts join to the body
pub record Joins (body : List ℕ) (u : Update) : Type 0 where
  pub first : two_at body 0 ≡ length u.withdrawn
  pub second : two_at body (2 + length u.withdrawn) ≡ length u.section
  pub whole :
      let between = slice_range body (2 + length u.withdrawn) (4 + length u.withdrawn) in
      body ≡ take 2 body ++ (u.withdrawn ++ (between ++ (u.section ++ u.nlri)))
