-- What the doors are to say of sound programs that are laid end to end, and of the mirror. Assumes nothing: these are definitions.
-- To be believed: all.
use Rattle.std.specs.Prelude.{◌≡◌, List, ◌++◌, reverse, ℕ}
use Rattle.def_meaning.specs.Programs.{Prog, Span, ◌⧺◌, mirror}
use Rattle.def_meaning.specs.NodeWords.{Nodes, SoundWords}
use Rattle.def_promise.specs.Pattern.{ForwardDoor, ReverseDoor}

-- a span of the one program, followed by a span of the other
abbrev pub Joined : Prog → Prog → List ℕ → Type 0
Joined p q x = (a : List ℕ) × (b : List ℕ) × (x ≡ a ++ b) × Span p a × Span q b

-- The words ws are those of p and q laid end to end: sound, they say the one program followed by the other, and either door answers for spans
-- of the one followed by spans of the other, the reverse door for these read from their other side. Words say one program (`program_listed`), so
-- the first choice of which the answers speak is that of the one followed by the other.
pub record Joins (p q : Prog) (ws : List ℕ) : Type 0 where
  pub words_sound : SoundWords ws
  pub say : Nodes ws (p ⧺ q)
  pub answers_forward : ForwardDoor (Joined p q) ws
  pub answers_reverse : ReverseDoor (λ x. Joined p q (reverse x)) ws

-- The words ws are the mirror of p: sound, they say the mirror, and the reverse door answers for the spans of p, the forward door for these read
-- from their other side.
pub record IsMirror (p : Prog) (ws : List ℕ) : Type 0 where
  pub words_sound : SoundWords ws
  pub say : Nodes ws (mirror p)
  pub answers_reverse : ReverseDoor (Span p) ws
  pub answers_forward : ForwardDoor (λ x. Span p (reverse x)) ws
