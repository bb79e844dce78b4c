-- What follows the offset reached does not matter, so long as no blank stands there. Assumes nothing.
use mathlib.Core.Path.{◌≡◌, sym, ap, ◌∙◌, subst}
use mathlib.Core.Bool.{false}
use mathlib.Core.Logic.{⊎_elim}
use mathlib.Core.List.{List, [], ◌∷◌}
use Prim.Native.Nat.{ℕ, ◌≤◌, ◌<◌}
use native.Mathlib.Omega.{arith}
use lib.ListN.{length, take, drop, get_or, take-append-drop, get_or-append}
use lib.Seq.{ext_get_or, get_or-take, length-take-le}
use Rattle.def_meaning.specs.Limits.{text_limit}
use Rattle.def_meaning.specs.Tokens.{Tokens}
use Rattle.def_reading.specs.Blanks.{blank}
use Rattle.def_reading.specs.Lists.{accepted, reading}
use Rattle.def_reading.proofs.PieceLaws.{never, first_drop}
use Rattle.def_grammar.proofs.Spelling.{Blank, NoBlank, SpellsText, SpellsString}
use Rattle.def_grammar.proofs.TextSpelled.{accepted_spelled}
use Rattle.def_grammar.proofs.TextRead.{spelled_accepted}

-- the byte that follows is no blank
no_blank : (s : List ℕ) → blank (get_or s 0 0) ≡ false → NoBlank s
unfolding NoBlank Blank blank
no_blank [] h = tt
no_blank (c ∷ s) h = λ b. ⊎_elim (λ e. never (cc (ap blank e))) (λ b. ⊎_elim (λ e. never (cc (ap blank e))) (λ b. ⊎_elim (λ e. never (cc (ap blank e))) (λ e. never (cc (ap blank e))) b) b) b

pub read_alike : (t u : List ℕ) (e : ℕ) (ts : Tokens) → reading t ≡ accepted e ts → length u ≤ text_limit → e ≤ length u → ((i : ℕ) → i < e → get_or t i 0 ≡ get_or u i 0) → blank (get_or u e 0) ≡ false → reading u ≡ accepted e ts
unfolding SpellsText
read_alike t u e ts h l k same b =
    let z = accepted_spelled t e ts h in
    let s = z.0.0 in
    let r = z.0.1 in
    let c : length s ≡ e = sym z.0.5 in
    let lt : length (take e u) ≡ e = length-take-le e u k in
    let f : s ≡ take e u = ext_get_or 0 s (take e u) (c ∙ sym lt) (λ i w. sym (get_or-append s r 0 i w) ∙ sym (ap (λ (x : List ℕ). get_or x i 0) z.0.2) ∙ same i (omega arith) ∙ sym (get_or-take e u i 0 (omega arith))) in
    spelled_accepted u e ts
    (take e u, drop e u, sym (take-append-drop e u), subst (λ (x : List ℕ). SpellsString ts x) f z.0.3, no_blank (drop e u) (ap blank (first_drop u e) ∙ b), sym lt)
    z.1 z.2 l
