-- Two texts whose list no closing sign follows, and their faults by the rules: the place of 2 is where the list has ended, and 6 comes before it. Assumes nothing.
use mathlib.Core.Path.{refl}
use mathlib.Core.Option.{some}
use mathlib.Core.Logic.{inl}
use mathlib.Core.List.{[], ◌∷◌}
use Prim.Native.Char.{code}
use Prim.Native.Nat.{ℕ, ◌+◌, ◌<◌}
use native.Mathlib.Omega.{arith}
use Rattle.base.specs.Text.{ascii}
use Rattle.base.specs.declared.Refusal.TheVariants.{Unexpected, JumpAtBound}
use Rattle.def_meaning.specs.Tokens.{Jump, total, total_in, totals}
use Rattle.def_reading.specs.Blanks.{blank, blanks, skip}
use Rattle.def_reading.specs.Pieces.{within, digit, two_digits, byte_at, one_digit, masked_at, hex_at, hex_token, negated, not_at, decimals, numeral, number_at, dash_at, lower_at, range_at, jumped, leaf_at, ◌else◌}
use Rattle.def_reading.specs.Lists.{token_or, bracketed, token_f}
use Rattle.def_grammar.specs.Grammar as rule
use Rattle.def_grammar.specs.Grammar.{Text, Clear, Gap}
use Rattle.def_grammar.specs.Faults as fault
use Rattle.def_grammar.specs.Faults.{Missing, Fault}
use Rattle.def_grammar.proofs.Fronts.{past_blanks}
use Rattle.def_grammar.proofs.RulesSpell.{blank_spells}
use Rattle.def_grammar.proofs.FaultPieces.{mark_here}
use Rattle.def_grammar.proofs.FaultTokens.{missing_there}
use Rattle.def_grammar.proofs.Samples.{none, one, ab, cd}

clear : (c : ℕ) {s : Text} → code " " < c → Clear (c ∷ s)
clear c h = rule.other (λ b. past_blanks c h (blank_spells b))

-- `AB CD ` ends at 8, where no `}` stands
abbrev two_bytes : Text
two_bytes = ascii "{ AB CD x }"

third : Missing two_bytes 1 8
unfolding within digit two_digits byte_at one_digit masked_at hex_at hex_token negated not_at range_at jumped leaf_at ◌else◌ token_or bracketed token_f
third = missing_there two_bytes 1 2 8 (omega arith, omega arith) refl

pub not_closed : Fault (ascii "{ AB CD x }") Unexpected 8
unfolding total total_in totals
not_closed =
    fault.not_closed (fault.outermost (omega arith) (fault.stands {s = ascii "{ "} {r = ascii "AB CD x }"} refl (rule.mark one) (clear (code "A") (omega arith))))
    (fault.list_ends (omega arith) (fault.stands {s = ascii "AB CD "} {r = ascii "x }"} refl (rule.more {a = ascii "AB "} refl ab (rule.list (rule.only cd))) (clear 120 (omega arith))) refl (omega arith) third)
    (λ e m. let h = (mark_here m).0 in omega arith)

-- `AB [2-3] ` ends at 11 with a jump, at 2 it begins
abbrev then_jump : Text
then_jump = ascii "{ AB [2-3] [x }"

figure : (v : ℕ) → v < 10 → rule.Number v ((code "0" + v) ∷ [])
figure v h = rule.number {a = (code "0" + v) ∷ []} {b = []} (rule.digit {v = v} h) none (omega arith)

jump : Gap 1 (Jump 2 (some 3)) (ascii "[2-3] ")
jump =
    rule.bounded (rule.between {a = ascii "["} {b = ascii "2"} {c = ascii "-"} {d = ascii "3"} {e = ascii "] "} (rule.mark none) (figure 2 (omega arith)) (rule.mark none) (figure 3 (omega arith)) (rule.mark one) (omega arith) (omega arith))
    (λ h k. omega arith) (λ h. omega arith)

after_jump : Missing then_jump 1 11
unfolding blank blanks skip within digit two_digits byte_at one_digit masked_at hex_at hex_token negated not_at decimals numeral number_at dash_at lower_at range_at jumped leaf_at ◌else◌ token_or bracketed token_f
after_jump = missing_there then_jump 1 2 11 (omega arith, omega arith) refl

pub ends_with_jump : Fault (ascii "{ AB [2-3] [x }") JumpAtBound 2
unfolding total_in
ends_with_jump =
    fault.jump_is_last
    (fault.next (fault.first (fault.outermost (omega arith) (fault.stands {s = ascii "{ "} {r = ascii "AB [2-3] [x }"} refl (rule.mark one) (clear (code "A") (omega arith)))) (omega arith))
    (fault.stands {s = ascii "AB "} {r = ascii "[2-3] [x }"} refl (inl ab) (clear (code "[") (omega arith))) refl (omega arith))
    (fault.stands {s = ascii "[2-3] "} {r = ascii "[x }"} refl jump (clear (code "[") (omega arith))) (omega arith) after_jump
