-- What the doors of the checks answer, in 01's words. Assumes nothing: these are definitions.
-- To be believed: `CheckSaid` `check_said` `window` `Answered` `onward` `HandsBack`.
use Rattle.std.specs.Prelude.{◌≡◌, cond, ◌&&◌, List, [], ℕ, ◌+◌, ◌-◌, leb, length, take, drop, Option as Found, Some, None, Result, Ok, Err}
use Rattle.std.proofs.Math.Option.{Option, none, some}
use Rattle.std.specs.Borrow.{Bor}
use Rattle.base.specs.declared.Refusal.{Refusal}
use Rattle.base.specs.Refusals.{number_of}
use Rattle.def_meaning.specs.Limits.{node_limit}
use Rattle.def_meaning.specs.Values.{Bytes}
use Rattle.def_meaning.specs.Rows.{forward, backward}
use Rattle.def_meaning.specs.Words.{prog, sound}

-- 01's answers of a check: found at an offset, no match, refused under a number at a place (which is 0)
pub data CheckSaid : Type 0 where
  found : ℕ → CheckSaid
  no_match : CheckSaid
  refuses : ℕ → ℕ → CheckSaid

-- what each of the code's answers says
abbrev pub check_said : Result (Found ℕ) Refusal → CheckSaid
check_said (Ok (Some n)) = found n
check_said (Ok None) = no_match
check_said (Err r) = refuses (number_of r) 0

-- the part of the haystack inside the window
abbrev pub window : List ℕ → ℕ → ℕ → List ℕ
window hay s e = take (e - s) (drop s hay)

-- 16 for a window that is not in a haystack of n bytes, then 13 for more than 512 words, then 15 for words that are not sound
unfoldable pub refusal : List ℕ → ℕ → ℕ → ℕ → Option ℕ
refusal ws n s e = cond (leb s e && leb e n) (cond (leb (length ws) node_limit) (cond (sound ws) none (some 15)) (some 13)) (some 16)

abbrev pub why_not : Result Unit Refusal → Option ℕ
why_not (Ok u) = none
why_not (Err r) = some (number_of r)

-- refused, or what the check says
abbrev pub unless : Option ℕ → CheckSaid → CheckSaid
unless none o = o
unless (some k) o = refuses k 0

-- the offset of the end, where the match leaves the last bytes of a window that ends at e
abbrev pub end_at : ℕ → Option (List ℕ) → CheckSaid
end_at e none = no_match
end_at e (some v) = found (e - length v)

-- the offset of the start, where the match leaves the first bytes of a window that starts at s
abbrev pub start_at : ℕ → Option (List ℕ) → CheckSaid
start_at s none = no_match
start_at s (some v) = found (s + length v)

unfoldable pub forward_says : List ℕ → List ℕ → ℕ → ℕ → CheckSaid
forward_says ws hay s e = unless (refusal ws (length hay) s e) (end_at e (forward (prog ws) (window hay s e)))

unfoldable pub reverse_says : List ℕ → List ℕ → ℕ → ℕ → CheckSaid
reverse_says ws hay s e = unless (refusal ws (length hay) s e) (start_at s (backward (prog ws) (window hay s e)))

-- what is left of the window, and nothing after no match and after a refusal
abbrev pub left_or : Option (List ℕ) → List ℕ
left_or none = []
left_or (some v) = v

abbrev pub unless_empty : Option ℕ → List ℕ → List ℕ
unless_empty none l = l
unless_empty (some k) l = []

unfoldable pub left_says : List ℕ → List ℕ → ℕ → ℕ → List ℕ
left_says ws hay s e = unless_empty (refusal ws (length hay) s e) (left_or (forward (prog ws) (window hay s e)))

-- where in the haystack it begins: at the end that was found, else at the haystack's start
abbrev pub left_from : CheckSaid → ℕ
left_from (found n) = n
left_from no_match = 0
left_from (refuses k place) = 0

unfoldable pub left_at : List ℕ → List ℕ → ℕ → ℕ → ℕ
left_at ws hay s e = left_from (forward_says ws hay s e)

-- What the answer r of a check's door promises: it says o; and the haystack holds bytes, by its type.
pub record Answered (o : CheckSaid) (hay : List ℕ) (r : Result (Found ℕ) Refusal) : Type 0 where
  pub says : check_said r ≡ o
  pub bytes : Bytes hay

-- the place n bytes on: a place is a block of memory and an offset in it
abbrev pub onward : ℕ × ℕ → ℕ → ℕ × ℕ
onward at n = (at.0, at.1 + n)

-- What the second forward door promises of the part r of the haystack that it hands back: its bytes, and where it lies.
pub record HandsBack (ws : List ℕ) (hay : Bor (List ℕ)) (s e : ℕ) (r : Bor (List ℕ)) : Type 0 where
  pub left : r.now ≡ left_says ws hay.now s e
  pub lies : r.ref_ptr ≡ onward hay.ref_ptr (left_at ws hay.now s e)
