-- In a text whose alternatives are plain, each part of a run is bytes only, one class or one alternatives token; and what is computed of the parts,
-- the slices and the winner of a run is what its name says, since they have all that the theorems on it ask. Assumes nothing.
use Rattle.std.proofs.Common.{◌≡◌, refl, sym, ◌∙◌, subst, Bool, true, false, ◌&&◌, inl, inr, ◌↔◌, List, [], ◌∷◌, ℕ, length}
use mathlib.Core.List.{Memᴰ}
use Rattle.def_meaning.specs.Tokens.{left, right, all, Token, Tokens, Lists, Byte, NotByte, MaskedByte, NotMaskedByte, Jump, Alternatives, nothing, ◌then◌, ◌⊕◌}
use Rattle.def_meaning.specs.Values.{SpelledOne, Spelled, SpelledMore}
use Rattle.def_meaning.proofs.ValueLaws.{any_spelled}
use Rattle.def_meaning.proofs.SoundLaws.{and_left, and_right, false_true}
use Rattle.atoms.specs.Score.{literal_score}
use Rattle.def_reading.proofs.SpelledValues.{accepted_spelled}
use Rattle.def_grammar.specs.Grammar.{Derives}
use Rattle.def_grammar.proofs.Derivable.{derived_accepted}
use Rattle.def_picking.specs.Literals.{is_byte, is_plain, literals, length_in, listable_of, listable, listable_in}
use Rattle.def_picking.specs.Runs.{is_alternatives, closes, plain_inside, plain_alternatives, runs, is_literal, joins_part, part_before, parts, slice, slices}
use Rattle.def_picking.specs.Candidates.{least, chosen, widened, bytes_of}
use Rattle.def_picking.proofs.KeepLaws.{Every, every_at}
use Rattle.def_picking.proofs.FactorLaws.{Open, run_parts, run_slices}
use Rattle.def_picking.proofs.ChosenLaws.{open_listable}
use Rattle.def_picking.proofs.ShortestLaws.{shortest_reached, Able, able_left, able_right, able_within, runs_able, chosen_able}
use Rattle.def_promise.specs.Literals.{Least}
use Rattle.def_promise.specs.Parts.{OnlyBytes, Part, TokenOf, TokenIn, MembersTaken}
use Rattle.def_promise.specs.Parts as table
use Rattle.def_promise.specs.Winners.{WinsRun}
use Rattle.def_promise.proofs.Literals.{is_byte_lem, is_plain_lem, bytes_literal, some_least, taken_members}
use Rattle.def_promise.proofs.Lengths.{shortest_length}
use Rattle.def_promise.proofs.Winners.{run_wins}

-- ---- what a part is

class_part : (t : Token) → is_plain t ≡ true → is_byte t ≡ false → Part (t then nothing)
class_part t h e = table.class ((is_plain_lem t).0 h) (λ v g. false_true (sym e ∙ (is_byte_lem t).1 (v, g)))

one_part : (t : Token) → closes t ≡ false → plain_inside t ≡ true → Part (t then nothing)
unfolding is_byte is_plain is_alternatives plain_inside
one_part (Byte v) o h = table.literal table.none
one_part (NotByte v) o h = class_part (NotByte v) refl refl
one_part (MaskedByte v left) o h = class_part (MaskedByte v left) refl refl
one_part (MaskedByte v right) o h = class_part (MaskedByte v right) refl refl
one_part (MaskedByte v all) o h = false_true (sym o)
one_part (NotMaskedByte v left) o h = class_part (NotMaskedByte v left) refl refl
one_part (NotMaskedByte v right) o h = class_part (NotMaskedByte v right) refl refl
one_part (NotMaskedByte v all) o h = false_true (sym o)
one_part (Jump from to) o h = false_true (sym o)
one_part (Alternatives ls) o h = table.alternatives h

-- one that begins with a byte holds only bytes
literal_bytes : {p : Tokens} → Part p → is_literal p ≡ true → OnlyBytes p
unfolding is_literal is_byte
literal_bytes (table.literal h) e = table.more h
literal_bytes (table.class {t = t} k f) e = let (v, g) = (is_byte_lem t).0 e in absurd (f v g)
literal_bytes (table.alternatives h) e = false_true e

bytes_first : {p : Tokens} → Part p → OnlyBytes p → is_literal p ≡ true
unfolding is_literal is_byte
bytes_first (table.literal h) (table.more k) = refl
bytes_first (table.class k f) (table.more h) = refl
bytes_first (table.alternatives h) k = elim k [ ]

joined_part : (t : Token) (p : Tokens) → is_byte t && is_literal p ≡ true → Part p → Part (t then p)
joined_part t p h k =
    let (v, e) = (is_byte_lem t).0 (and_left (is_byte t) _ h) in
    subst (λ (x : Token). Part (x then p)) (sym e) (table.literal (literal_bytes k (and_right (is_byte t) _ h)))

part_before_lem : (t : Token) (ps : List Tokens) → closes t ≡ false → plain_inside t ≡ true → Every Part ps → Every Part (part_before t ps)
unfolding part_before joins_part Every
part_before_lem t [] o q h = (one_part t o q, tt)
part_before_lem t (p ∷ ps) o q h = go (is_byte t && is_literal p) refl
  where
    go : (b : Bool) → is_byte t && is_literal p ≡ b → Every Part (joins_part b t p ps)
    go true e = (joined_part t p e h.0, h.1)
    go false e = (one_part t o q, h)

parts_are : (run : Tokens) → Open run → plain_alternatives run ≡ true → Every Part (parts run)
unfolding parts Every Open plain_alternatives
parts_are nothing o q = tt
parts_are (t then ts) o q = part_before_lem t (parts ts) o.0 (and_left (plain_inside t) _ q) (parts_are ts o.1 (and_right (plain_inside t) _ q))

-- ---- what holds of tokens without `??` and jumps, as a text spells them

plain_told : (t : Token) → is_plain t ≡ true → SpelledOne t → MembersTaken t
plain_told t k w = inl ((is_plain_lem t).0 k, taken_members t k w)

token_told : (t : Token) → listable_of t ≡ true → SpelledOne t → MembersTaken t
unfolding is_plain listable_of
token_told (Byte v) k w = plain_told (Byte v) refl w
token_told (NotByte v) k w = plain_told (NotByte v) refl w
token_told (MaskedByte v m) k w = plain_told (MaskedByte v m) k w
token_told (NotMaskedByte v m) k w = plain_told (NotMaskedByte v m) k w
token_told (Jump from to) k w = false_true k
token_told (Alternatives ls) k w = inr (ls, refl)

mutual
  unfolding listable Spelled

  tokens_told : {t : Token} {us : Tokens} → listable us ≡ true → Spelled us → TokenOf t us → MembersTaken t
  tokens_told {t} k w table.first = token_told t (and_left (listable_of t) _ k) w.0
  tokens_told k w (table.later {u = u} h) = tokens_told (and_right (listable_of u) _ k) w.1 h
  tokens_told k w (table.inside {ls = ls} h) = lists_told (and_left (listable_in ls) _ k) (any_spelled ls w.0) h

  lists_told : {t : Token} {ls : Lists} → listable_in ls ≡ true → SpelledMore ls → TokenIn t ls → MembersTaken t
  lists_told k w (table.this {ts = ts} h) = tokens_told (and_left (listable ts) _ k) w.0 h
  lists_told k w (table.other {ts = ts} h) = lists_told (and_right (listable ts) _ k) w.1 h

module _ (us : Tokens) (able : Able us) where
  able_listable : listable us ≡ true
  able_listable = open_listable us able.0 able.1

  able_length : Least length (literals us) (length_in us)
  able_length = shortest_length us able_listable able.2

  able_least : (f : List ℕ → ℕ) → Least f (literals us) (least f (literals us))
  able_least f = let (l, m, e) = shortest_reached us able_listable able.2 in some_least f (literals us) m

  able_members : {u : Token} → TokenOf u us → MembersTaken u
  able_members h = tokens_told able_listable able.2 h

-- ---- the parts, the slices and the winner of a run, in a text whose alternatives are plain

module _ {t : List ℕ} {reached : ℕ} {ts : Tokens} (text : Derives t reached ts) (plainly : plain_alternatives ts ≡ true) {run : Tokens} (among : Memᴰ run (runs ts)) where
  run_able : Able run
  run_able = every_at Able (runs ts) (runs_able ts plainly (accepted_spelled t reached ts (derived_accepted t reached ts text))) among

  module _ {p : Tokens} (is-part : Memᴰ p (parts run)) where
    part_able : Able p
    part_able = able_within p run (every_at _ (parts run) (run_parts run) is-part).0 run_able

    -- each part is successive bytes, one class, or one alternatives token with plain branches
    pub run_part : Part p
    run_part = every_at Part (parts run) (parts_are run run_able.0 run_able.1) is-part

    -- the literal parts are those that hold only bytes
    pub is_literal_lem : (is_literal p ≡ true) ↔ OnlyBytes p
    is_literal_lem = (literal_bytes run_part, bytes_first run_part)

    -- and such a part has one literal, its bytes
    pub literal_part : is_literal p ≡ true → literals p ≡ bytes_of p ∷ []
    literal_part h = bytes_literal (is_literal_lem.0 h)

    -- the length of a part is that of its shortest literal
    pub part_length : Least length (literals p) (length_in p)
    part_length = able_length p part_able

  module _ {prior own next : Tokens} (is_Slice : Memᴰ (slice prior own next) (slices (parts run) nothing)) where
    slice_able : Able own
    unfolding widened
    slice_able =
        let (f, h) = every_at _ (slices (parts run) nothing) (run_slices run) is_Slice in
        able_left own next (able_right prior (own ⊕ next) (able_within (prior ⊕ (own ⊕ next)) run f run_able))

    -- the score that a slice is ranked by is the least of its literals
    pub slice_score : Least literal_score (literals own) (least literal_score (literals own))
    slice_score = able_least own slice_able literal_score

    -- what is taken of its tokens, for its literals and its combinations, are their members
    pub slice_members : {u : Token} → TokenOf u own → MembersTaken u
    slice_members h = able_members own slice_able h

  module _ {n : ℕ} {us : Tokens} (wins : WinsRun run (chosen n us)) where
    winner_able : Able us
    winner_able = chosen_able run run_able n us ((run_wins run (chosen n us)).1 wins)

    -- the length by which what wins in a run is compared with what wins in another is that of its shortest literal
    pub winner_shortest : Least length (literals us) (least length (literals us))
    winner_shortest = able_least us winner_able length

    -- what is taken of its tokens are their members
    pub winner_members : {u : Token} → TokenOf u us → MembersTaken u
    winner_members h = able_members us winner_able h
