-- 01's P samples that are read or refused, from the grammar, as one claim over the list, and three more of 01's rules: no blank inside a byte, no `|`
-- last, no number above 4,294,967,295. What is read is derived by the rules, and what is refused has its fault. Assumes nothing.
use mathlib.Core.Path.{refl}
use mathlib.Core.Option.{some}
use mathlib.Core.List.{List, [], ◌∷◌}
use Prim.Native.Nat.{ℕ}
use native.Mathlib.Omega.{arith}
use Rattle.base.specs.Text.{ascii}
use Rattle.base.specs.declared.Refusal.{Refusal}
use Rattle.base.specs.declared.Refusal.TheVariants.{Unexpected, NumberTooBig, JumpEmpty, JumpAtBound, JumpTooBigInAlternation, CannotNegateMaskAll}
use Rattle.def_meaning.specs.Entries.{token_count}
use Rattle.def_meaning.specs.Tokens.{Tokens, Byte, Jump, Alternatives, nothing, ◌then◌, neither, ◌or◌, total, total_in, totals}
use Rattle.def_reading.specs.Blanks.{blank, blanks, skip}
use Rattle.def_reading.specs.Pieces.{within, digit, two_digits, byte_at, one_digit, masked_at, hex_at, hex_token, negated, not_at, decimals, numeral, number_at, checked, closed_at, upper_at, dash_at, lower_at, range_at, jump_token, jumped, leaf_at, ◌else◌}
use Rattle.def_reading.specs.Lists.{token_or, as_token, bracketed, before, then_more, is_jump, jump_first, jump_last_in, jump_last, at_bound, list_of, beside, then_lists, token_f, more_f, list_f, lists_f, closing, reading}
use Rattle.def_grammar.specs.Grammar as rule
use Rattle.def_grammar.specs.Grammar.{Text, Derives}
use Rattle.def_grammar.specs.Faults.{Fault}
use Rattle.def_grammar.proofs.Fronts.{past_blanks}
use Rattle.def_grammar.proofs.RulesSpell.{blank_spells}
use Rattle.def_grammar.proofs.FaultLaws.{fault_exactly}

-- a text is derivable with these tokens, up to this offset; or it has this fault there
pub data Sample : Type 0 where
  reads : Text → ℕ → Tokens → Sample
  refused : Text → Refusal → ℕ → Sample

unfoldable pub Right : Sample → Type 0
Right (reads t e ts) = Derives t e ts
Right (refused t r p) = Fault t r p

infixr 30 ◌also◌
pub data Every : List Sample → Type 0 where
  no_more : Every []
  ◌also◌ : {s : Sample} {ss : List Sample} → Right s → Every ss → Every (s ∷ ss)

unfoldable pub samples : List Sample
samples =
    refused (ascii "{ AB [0] CD }") JumpEmpty 5
    ∷ refused (ascii "{ [5] AB }") JumpAtBound 2
    ∷ reads (ascii "{ AB (CD [200] EF) }") 20 (Byte 0xAB then Alternatives ((Byte 0xCD then Jump 200 (some 200) then Byte 0xEF then nothing) or neither) then nothing)
    ∷ refused (ascii "{ AB (CD [201] EF) }") JumpTooBigInAlternation 9
    ∷ refused (ascii "{ ~?? }") CannotNegateMaskAll 2
    ∷ refused (ascii "{ ??? }") Unexpected 4
    ∷ refused (ascii "{ AB [2-3] [x }") JumpAtBound 2
    ∷ reads (ascii "{ AB } zz") 7 (Byte 0xAB then nothing)
    ∷ refused (ascii "{ A B }") Unexpected 2
    ∷ refused (ascii "{ (AB|) }") Unexpected 5
    ∷ refused (ascii "{ AB [4294967296] CD }") NumberTooBig 6
    ∷ []

pub none : rule.Blanks []
none = rule.no_blank

pub one : rule.Blanks (ascii " ")
one = rule.a_blank rule.space none

pub ab : {level : ℕ} → rule.Solid level (Byte 0xAB) (ascii "AB ")
ab = rule.byte (rule.whole {a = ascii "A"} {b = ascii "B"} (rule.upper {v = 0} (omega arith)) (rule.upper {v = 1} (omega arith)) one)

pub cd : {level : ℕ} → rule.Solid level (Byte 0xCD) (ascii "CD ")
cd = rule.byte (rule.whole {a = ascii "C"} {b = ascii "D"} (rule.upper {v = 2} (omega arith)) (rule.upper {v = 3} (omega arith)) one)

ef : {level : ℕ} → rule.Solid level (Byte 0xEF) (ascii "EF")
ef = rule.byte (rule.whole {a = ascii "E"} {b = ascii "F"} (rule.upper {v = 4} (omega arith)) (rule.upper {v = 5} (omega arith)) none)

two_hundred : rule.Number 200 (ascii "200")
two_hundred =
    rule.number {a = ascii "200"} (rule.digits {n = 20} {v = 0} {s = ascii "20"} (rule.digits {n = 2} {v = 0} {s = ascii "2"} (rule.digit {v = 2} (omega arith)) (omega arith)) (omega arith)) none (omega arith)

jump : rule.Gap 2 (Jump 200 (some 200)) (ascii "[200] ")
jump = rule.bounded (rule.exactly {a = ascii "["} {b = ascii "200"} (rule.mark none) two_hundred (rule.mark one) (omega arith)) (λ h k. omega arith) (λ h. omega arith)

brackets : rule.Solid 1 (Alternatives ((Byte 0xCD then Jump 200 (some 200) then Byte 0xEF then nothing) or neither)) (ascii "(CD [200] EF) ")
brackets =
    rule.alternatives {a = ascii "("} {b = ascii "CD [200] EF"} refl (rule.mark none) (rule.more {a = ascii "CD "} refl cd (rule.jump {a = ascii "[200] "} refl jump (rule.list (rule.only ef))))
    (rule.close (rule.mark one)) (omega arith)

with_brackets : Derives (ascii "{ AB (CD [200] EF) }") 20 (Byte 0xAB then Alternatives ((Byte 0xCD then Jump 200 (some 200) then Byte 0xEF then nothing) or neither) then nothing)
unfolding total total_in totals
with_brackets =
    rule.derives {s = ascii "{ AB (CD [200] EF) }"} {r = []}
    (rule.pattern {a = ascii "{ "} {b = ascii "AB (CD [200] EF) "} (rule.mark one) (rule.more {a = ascii "AB "} refl ab (rule.list (rule.only brackets))) (rule.mark none))
    rule.end (omega arith) (omega arith)

with_rest : Derives (ascii "{ AB } zz") 7 (Byte 0xAB then nothing)
unfolding total total_in totals
with_rest =
    rule.derives {s = ascii "{ AB } "} {r = ascii "zz"} (rule.pattern {a = ascii "{ "} {b = ascii "AB "} (rule.mark one) (rule.only ab) (rule.mark one))
    (rule.other (λ b. past_blanks 122 (omega arith) (blank_spells b))) (omega arith) (omega arith)

pub samples_hold : Every samples
unfolding samples Right blank blanks skip within digit two_digits byte_at one_digit masked_at hex_at hex_token negated not_at decimals numeral number_at checked closed_at upper_at dash_at lower_at range_at jump_token jumped leaf_at ◌else◌ token_or as_token bracketed before then_more is_jump jump_first jump_last_in jump_last at_bound list_of beside then_lists token_f more_f list_f lists_f closing reading token_count
samples_hold =
    (fault_exactly (ascii "{ AB [0] CD }") JumpEmpty 5).0 refl
    also (fault_exactly (ascii "{ [5] AB }") JumpAtBound 2).0 refl
    also with_brackets
    also (fault_exactly (ascii "{ AB (CD [201] EF) }") JumpTooBigInAlternation 9).0 refl
    also (fault_exactly (ascii "{ ~?? }") CannotNegateMaskAll 2).0 refl
    also (fault_exactly (ascii "{ ??? }") Unexpected 4).0 refl
    also (fault_exactly (ascii "{ AB [2-3] [x }") JumpAtBound 2).0 refl
    also with_rest
    also (fault_exactly (ascii "{ A B }") Unexpected 2).0 refl
    also (fault_exactly (ascii "{ (AB|) }") Unexpected 5).0 refl
    also (fault_exactly (ascii "{ AB [4294967296] CD }") NumberTooBig 6).0 refl
    also no_more
