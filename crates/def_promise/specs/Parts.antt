-- What a part of a run is, and of which tokens the members are taken. Assumes nothing: these are definitions, and only the statements of
-- proofs/Parts.antt, and of `bytes_literal`, rest on them.
-- To be believed: nothing.
use Rattle.std.specs.Prelude.{◌≡◌, true, ◌⊎◌, ℕ}
use Rattle.def_meaning.specs.Tokens.{Token, Tokens, Lists, Byte, Alternatives, nothing, ◌then◌, ◌or◌}
use Rattle.def_picking.specs.Literals.{taken, plain_lists}
use Rattle.def_promise.specs.Literals.{Plain, Members}

pub data OnlyBytes : Tokens → Type 0 where
  none : OnlyBytes nothing
  more : {v : ℕ} {ts : Tokens} → OnlyBytes ts → OnlyBytes (Byte v then ts)

-- successive bytes, one class, or one alternatives token whose branches hold only bytes and classes
pub data Part : Tokens → Type 0 where
  literal : {v : ℕ} {ts : Tokens} → OnlyBytes ts → Part (Byte v then ts)
  class : {t : Token} → Plain t → ((v : ℕ) → t ≡ Byte v → ⊥) → Part (t then nothing)
  alternatives : {ls : Lists} → plain_lists ls ≡ true → Part (Alternatives ls then nothing)

mutual
  -- one of some tokens, or of a branch of alternatives among them
  pub data TokenOf (t : Token) : Tokens → Type 0 where
    first : {ts : Tokens} → TokenOf t (t then ts)
    later : {u : Token} {ts : Tokens} → TokenOf t ts → TokenOf t (u then ts)
    inside : {ls : Lists} {ts : Tokens} → TokenIn t ls → TokenOf t (Alternatives ls then ts)

  pub data TokenIn (t : Token) : Lists → Type 0 where
    this : {ts : Tokens} {ls : Lists} → TokenOf t ts → TokenIn t (ts or ls)
    other : {ts : Tokens} {ls : Lists} → TokenIn t ls → TokenIn t (ts or ls)

-- a byte or a class, and what is taken of it are its members; or alternatives
abbrev pub MembersTaken : Token → Type 0
MembersTaken t = (Plain t × Members t (taken t)) ⊎ ((ls : Lists) × (t ≡ Alternatives ls))
