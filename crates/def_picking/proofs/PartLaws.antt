-- No two literal parts of a run meet. Assumes nothing.
use mathlib.Core.Path.{◌≡◌, refl, sym, ap₂, ◌∙◌, subst}
use mathlib.Core.Bool.{Bool, true, false, ◌&&◌}
use mathlib.Core.List.{List, [], ◌∷◌, ◌++◌}
use Rattle.def_meaning.specs.Tokens.{Token, Tokens, nothing, ◌then◌}
use Rattle.def_meaning.proofs.SoundLaws.{and_left, and_right, false_true}
use Rattle.def_picking.specs.Literals.{is_byte}
use Rattle.def_picking.specs.Runs.{is_literal, joins_part, part_before, parts}

-- of each part and the next, one is no literal
unfoldable Apart : List Tokens → Type 0
Apart [] = Unit {0}
Apart (p ∷ []) = Unit {0}
Apart (p ∷ (q ∷ ps)) = (is_literal p && is_literal q ≡ false) × Apart (q ∷ ps)

-- a byte that joins a literal leaves a literal
joined_apart : (t : Token) (p : Tokens) (ps : List Tokens) → is_byte t ≡ true → is_literal p ≡ true → Apart (p ∷ ps) → Apart ((t then p) ∷ ps)
unfolding Apart is_literal
joined_apart t p [] e f h = tt
joined_apart t p (q ∷ ps) e f h = (ap₂ ◌&&◌ e refl ∙ sym (ap₂ ◌&&◌ f refl) ∙ h.0, h.1)

apart_before : (t : Token) (ps : List Tokens) → Apart ps → Apart (part_before t ps)
unfolding Apart part_before joins_part is_literal
apart_before t [] h = tt
apart_before t (p ∷ ps) h = go (is_byte t && is_literal p) refl
  where
    go : (b : Bool) → is_byte t && is_literal p ≡ b → Apart (joins_part b t p ps)
    go true e = joined_apart t p ps (and_left (is_byte t) (is_literal p) e) (and_right (is_byte t) (is_literal p) e) h
    go false e = (e, h)

apart : (run : Tokens) → Apart (parts run)
unfolding Apart parts
apart nothing = tt
apart (t then ts) = apart_before t (parts ts) (apart ts)

neighbours : (a b : List Tokens) (p q : Tokens) → Apart (a ++ (p ∷ (q ∷ b))) → is_literal p ≡ true → is_literal q ≡ true → ⊥
unfolding Apart
neighbours [] b p q h e f = false_true (sym h.0 ∙ ap₂ ◌&&◌ e f)
neighbours (x ∷ []) b p q h e f = neighbours [] b p q h.1 e f
neighbours (x ∷ (y ∷ a)) b p q h e f = neighbours (y ∷ a) b p q h.1 e f

-- two parts of which one stands right after the other are not both literals
pub parts_apart : (run : Tokens) (a b : List Tokens) (p q : Tokens) → parts run ≡ a ++ (p ∷ (q ∷ b)) → is_literal p ≡ true → is_literal q ≡ true → ⊥
parts_apart run a b p q s e f = neighbours a b p q (subst Apart s (apart run)) e f
