-- What the checks are to say of a pattern, from its text to the bytes of a haystack. Assumes nothing: these are definitions.
-- To be believed: all.
use Rattle.std.specs.Prelude.{◌≡◌, ◌↔◌, List, ℕ, ◌≤◌, length, take, Option, Result}
use Rattle.base.specs.declared.Refusal.{Refusal}
use Rattle.def_meaning.specs.Tokens.{Tokens, Spans}
use Rattle.def_meaning.specs.Programs.{Prog}
use Rattle.def_meaning.specs.Choices.{FirstForward, FirstReverse}
use Rattle.def_grammar.specs.Grammar.{Derives}
use Rattle.compiledoor.specs.Door.{forward_leaves, reverse_leaves}
use Rattle.checkdoors.specs.Doors.{CheckSaid, found, no_match, refuses, check_said, window, forward_says, reverse_says, Answered}
use Rattle.def_meaning.specs.NodeWords.{SoundWords}

-- the bytes of the haystack from a to b are one of some spans
abbrev pub SpanAt : (List ℕ → Type 0) → List ℕ → ℕ → ℕ → Type 0
SpanAt spans hay a b = (a ≤ b) × (b ≤ length hay) × spans (window hay a b)

-- in the window from s to e, the first choice of a program ends at n: it leaves what lies from there to the window's end
abbrev pub FirstEnd : Prog → List ℕ → ℕ → ℕ → ℕ → Type 0
FirstEnd p hay s e n = (s ≤ n) × (n ≤ e) × FirstForward p (window hay s e) (window hay n e)

-- read from the window's end, the first choice of a program starts at n: it leaves what lies before
abbrev pub FirstStart : Prog → List ℕ → ℕ → ℕ → ℕ → Type 0
FirstStart p hay s e n = (s ≤ n) × (n ≤ e) × FirstReverse p (window hay s e) (window hay s n)

-- Asked with the words ws about the window from s to e, the forward door said o: so it answers for some spans, as those of a pattern.
pub record AnswersForward (spans : List ℕ → Type 0) (ws hay : List ℕ) (s e : ℕ) (o : CheckSaid) : Type 0 where
  pub words_sound : SoundWords ws
  -- it finds some end exactly if a span starts at s and ends in the window
  pub finds : ((n : ℕ) × (o ≡ found n)) ↔ ((b : ℕ) × (b ≤ e) × SpanAt spans hay s b)
  -- what it finds is the end of a span
  pub finds_span : (n : ℕ) → o ≡ found n → (n ≤ e) × SpanAt spans hay s n
  -- and the end of the first choice, which it always finds
  pub finds_first : (n : ℕ) → (o ≡ found n) ↔ FirstEnd words_sound.program hay s e n
  -- it says no match exactly if no span starts at s and ends in the window
  pub misses : (o ≡ no_match) ↔ ((b : ℕ) → b ≤ e → SpanAt spans hay s b → ⊥)
  pub never_refuses : (k p : ℕ) → o ≡ refuses k p → ⊥

-- the reverse door likewise: the spans that end at e, and their starts
pub record AnswersReverse (spans : List ℕ → Type 0) (ws hay : List ℕ) (s e : ℕ) (o : CheckSaid) : Type 0 where
  pub words_sound : SoundWords ws
  pub finds : ((n : ℕ) × (o ≡ found n)) ↔ ((a : ℕ) × (s ≤ a) × SpanAt spans hay a e)
  pub finds_span : (n : ℕ) → o ≡ found n → (s ≤ n) × SpanAt spans hay n e
  pub finds_first : (n : ℕ) → (o ≡ found n) ↔ FirstStart words_sound.program hay s e n
  pub misses : (o ≡ no_match) ↔ ((a : ℕ) → s ≤ a → SpanAt spans hay a e → ⊥)
  pub never_refuses : (k p : ℕ) → o ≡ refuses k p → ⊥

-- Whatever the doors of the checks answer to the words ws about a window inside its haystack, they answer for some spans.
abbrev pub ForwardDoor : (List ℕ → Type 0) → List ℕ → Type 0
ForwardDoor spans ws = (hay : List ℕ) (s e : ℕ) (r : Result (Option ℕ) Refusal) → s ≤ e → e ≤ length hay → Answered (forward_says ws hay s e) hay r → AnswersForward spans ws hay s e (check_said r)

abbrev pub ReverseDoor : (List ℕ → Type 0) → List ℕ → Type 0
ReverseDoor spans ws = (hay : List ℕ) (s e : ℕ) (r : Result (Option ℕ) Refusal) → s ≤ e → e ≤ length hay → Answered (reverse_says ws hay s e) hay r → AnswersReverse spans ws hay s e (check_said r)

-- The text t, which was read up to an offset and compiled into the pools p and q: it is a pattern, and the forward door, asked with the first n words
-- of its pool, answers for the spans of its tokens; the reverse door, asked with the first m words of the other, likewise.
abbrev pub PatternForward : List ℕ → List ℕ → List ℕ → ℕ → ℕ → Type 0
PatternForward t p q reached n = (ts : Tokens) × Derives t reached ts × ForwardDoor (Spans ts) (take n (forward_leaves t p q))

abbrev pub PatternReverse : List ℕ → List ℕ → List ℕ → ℕ → ℕ → Type 0
PatternReverse t p q reached m = (ts : Tokens) × Derives t reached ts × ReverseDoor (Spans ts) (take m (reverse_leaves t p q))
