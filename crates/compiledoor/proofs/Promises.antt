-- What compiling a text promises: sound programs with exactly the pattern's spans, and a single outcome. Assumes nothing.
use Rattle.std.proofs.Common.{◌≡◌, sym, ap, ap₂, ◌∙◌, true, ◌↔◌, Result, Ok, Err, List, reverse, ℕ}
use Rattle.base.specs.Refusals.{number_of}
use Rattle.base.proofs.RefusalLaws.{number_one}
use Rattle.def_meaning.specs.Tokens.{Tokens, Spans}
use Rattle.def_meaning.specs.Values.{Bytes}
use Rattle.def_meaning.specs.Programs.{Span}
use Rattle.def_meaning.specs.Words.{prog, sound}
use Rattle.def_reading.specs.Lists.{accepted, reading}
use Rattle.def_reading.proofs.PieceLaws.{never}
use Rattle.def_compiling.specs.Compile.{compiled, compile}
use Rattle.def_compiling.proofs.CompileLaws as law
use Rattle.base.specs.declared.Refusal.{Refusal}
use Rattle.base.specs.declared.Refused.{Refused}
use Rattle.compiledoor.specs.declared.Compiled.{Compiled}
use Rattle.compiledoor.specs.Door.{compile_said, compile_says, forward_leaves, reverse_leaves}
use Rattle.def_reading.proofs.SpelledValues.{accepted_spelled}

-- of a text that is read as the tokens ts and compiled to the words f and r
module _ (t : List ℕ) (e : ℕ) (ts : Tokens) (f r : List ℕ) (read : reading t ≡ accepted e ts) (done : compile ts ≡ compiled f r) where
  pub forward_sound : sound f ≡ true
  forward_sound = law.forward_sound ts (accepted_spelled t e ts read) f r done

  pub reverse_sound : sound r ≡ true
  reverse_sound = law.reverse_sound ts (accepted_spelled t e ts read) f r done

  -- the forward program has exactly the pattern's spans
  pub forward_exact : (s : List ℕ) → Bytes s → Spans ts s ↔ Span (prog f) s
  forward_exact s y = law.forward_exact ts (accepted_spelled t e ts read) f r done s y

  -- the reverse program exactly these, read from their other side
  pub reverse_exact : (s : List ℕ) → Bytes s → Spans ts s ↔ Span (prog r) (reverse s)
  reverse_exact s y = law.reverse_exact ts (accepted_spelled t e ts read) f r done s y

-- an answer is known by what it says
abbrev answer : ℕ → ℕ → ℕ → Result Compiled Refused
answer e f r = Ok (record { reached = e; forward = f; reverse = r })

abbrev refusal : Refusal → ℕ → Result Compiled Refused
refusal x place = Err (record { why = x; place = place })

said_one : (a b : Result Compiled Refused) → compile_said a ≡ compile_said b → a ≡ b
said_one (Ok c) (Ok d) h =
    let e : c.reached ≡ d.reached = cc in
    let f : c.forward ≡ d.forward = cc in
    let r : c.reverse ≡ d.reverse = cc in
    ap (λ (x : ℕ). answer x c.forward c.reverse) e ∙ ap₂ (answer d.reached) f r
said_one (Ok c) (Err x) h = never (cc)
said_one (Err x) (Ok d) h = never (cc)
said_one (Err x) (Err y) h =
    let n : number_of x.why ≡ number_of y.why = cc in
    let p : x.place ≡ y.place = cc in
    ap₂ refusal (number_one x.why y.why n) p

-- the door's promise leaves one answer and one content of each pool
pub compile_single : (t p q : List ℕ) (a b : Result Compiled Refused) (u v x y : List ℕ) → compile_said a ≡ compile_says t p q → compile_said b ≡ compile_says t p q → u ≡ forward_leaves t p q → v ≡ forward_leaves t p q → x ≡ reverse_leaves t p q → y ≡ reverse_leaves t p q → (a ≡ b) × (u ≡ v) × (x ≡ y)
compile_single t p q a b u v x y h k i j l m = (said_one a b (h ∙ sym k), i ∙ sym j, l ∙ sym m)
