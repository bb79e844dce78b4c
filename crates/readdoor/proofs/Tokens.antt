-- After success the used words decode to the tokens that the text spells. Assumes nothing.
use Rattle.std.proofs.Common.{◌≡◌, ℕ, ◌≤◌, List, length, take, refl, sym, ap, ◌∙◌, take_at}
use Rattle.base.specs.Pools.{filled}
use Rattle.def_meaning.specs.Limits.{token_pool}
use Rattle.def_meaning.specs.Tokens.{Tokens}
use Rattle.def_meaning.specs.Entries.{entries}
use Rattle.def_reading.specs.Lists.{accepted, reading}
use Rattle.def_reading.proofs.Decoded.{decode, decode_entries}
use Rattle.readdoor.specs.Door.{verdict_leaves, read_leaves}
use Rattle.readdoor.proofs.DoorLaws.{says_at}

front : (size : ℕ) (ws p : List ℕ) → take (length ws) (filled size ws p) ≡ ws
unfolding filled
front size ws p = take_at ws _ (length ws) refl

pub read_tokens : (t p : List ℕ) (e : ℕ) (ts : Tokens) → token_pool ≤ length p → reading t ≡ accepted e ts → decode (take (length (entries ts)) (read_leaves t p)) ≡ ts
unfolding verdict_leaves
read_tokens t p e ts h q = ap (λ (x : List ℕ). decode (take (length (entries ts)) x)) (sym (says_at t p h (accepted e ts) q).1) ∙ ap decode (front token_pool (entries ts) p) ∙ decode_entries ts
