-- A token pool's words decode back to the nested tokens, so no two lists of tokens have the same words. Assumes nothing.
use mathlib.Core.Path.{◌≡◌, refl, sym, ap, ap₂, ◌∙◌}
use mathlib.Core.Bool.{cond}
use mathlib.Core.Option.{none, some}
use mathlib.Core.List.{List, [], ◌∷◌, ◌++◌}
use Prim.Native.Nat.{ℕ, zero, suc, ◌*◌, ◌/◌, ◌≤◌, ◌<◌}
use native.Mathlib.Omega.{arith}
use lib.Dec.{eqb}
use lib.ListN.{length, take, drop, get_or, length-append}
use lib.Seq.{take_at, drop_at}
use Rattle.def_meaning.specs.Tokens.{Mask, left, right, all, Token, Tokens, Lists, Byte, NotByte, MaskedByte, NotMaskedByte, Jump, Alternatives, nothing, ◌then◌, neither, ◌or◌}
use Rattle.def_meaning.specs.Entries.{entries_of, entries, list_entries}
use Rattle.def_meaning.proofs.TokenLaws.{some_entry, fours, fours_in}

mask_of : ℕ → Mask
mask_of b = cond (eqb b 0) left (cond (eqb b 1) right all)

-- the token of one entry
leaf_of : ℕ → ℕ → ℕ → ℕ → Token
leaf_of k a b c =
    cond (eqb k 0) (Byte a) (cond (eqb k 1) (NotByte a) (cond (eqb k 2) (MaskedByte a (mask_of b)) (cond (eqb k 3) (NotMaskedByte a (mask_of b)) (Jump a (cond (eqb c 0) none (some b))))))

-- the tokens of so many words; the first number bounds the depth of calls
mutual
  tokens_f : ℕ → List ℕ → Tokens
  tokens_f zero ws = nothing
  tokens_f (suc f) [] = nothing
  tokens_f (suc f) (k ∷ ws) =
      cond (eqb k 5) (Alternatives (lists_f f (take (4 * get_or ws 1 0) (drop 3 ws))) then tokens_f f (drop (4 * get_or ws 1 0) (drop 3 ws)))
      (leaf_of k (get_or ws 0 0) (get_or ws 1 0) (get_or ws 2 0) then tokens_f f (drop 3 ws))

  lists_f : ℕ → List ℕ → Lists
  lists_f zero ws = neither
  lists_f (suc f) [] = neither
  lists_f (suc f) (k ∷ ws) = tokens_f f (take (4 * get_or ws 1 0) (drop 3 ws)) or lists_f f (drop (4 * get_or ws 1 0) (drop 3 ws))

pub decode : List ℕ → Tokens
decode ws = tokens_f (suc (length ws)) ws

-- the words of a part whose entries are counted, and what follows it
part : (xs ys : List ℕ) → 4 * (length xs / 4) ≡ length xs → (take (4 * (length xs / 4)) (xs ++ ys) ≡ xs) × (drop (4 * (length xs / 4)) (xs ++ ys) ≡ ys)
part xs ys e = (take_at xs ys (4 * (length xs / 4)) (sym e), drop_at xs ys (4 * (length xs / 4)) (sym e))

mutual
  unfolding tokens_f lists_f leaf_of mask_of entries_of entries list_entries

  token_back : (t : Token) (ws : List ℕ) (f : ℕ) → length (entries_of t) ≤ f → tokens_f (suc f) (entries_of t ++ ws) ≡ t then tokens_f f ws
  token_back (Byte v) ws f h = refl
  token_back (NotByte v) ws f h = refl
  token_back (MaskedByte v left) ws f h = refl
  token_back (MaskedByte v right) ws f h = refl
  token_back (MaskedByte v all) ws f h = refl
  token_back (NotMaskedByte v left) ws f h = refl
  token_back (NotMaskedByte v right) ws f h = refl
  token_back (NotMaskedByte v all) ws f h = refl
  token_back (Jump from none) ws f h = refl
  token_back (Jump from (some to)) ws f h = refl
  token_back (Alternatives ls) ws f h =
      let p = part (list_entries ls) ws (fours_in ls) in
      ap₂ (λ (x y : List ℕ). Alternatives (lists_f f x) then tokens_f f y) p.0 p.1
      ∙ ap (λ (x : Lists). Alternatives x then tokens_f f ws) (lists_back ls f (omega arith))

  tokens_back : (ts : Tokens) (f : ℕ) → length (entries ts) < f → tokens_f f (entries ts) ≡ ts
  tokens_back nothing zero h = refl
  tokens_back nothing (suc f) h = refl
  tokens_back (t then ts) zero h = absurd (omega arith)
  tokens_back (t then ts) (suc f) h =
      let l = length-append (entries_of t) (entries ts) in
      let g = some_entry t in
      token_back t (entries ts) f (omega arith) ∙ ap (λ (x : Tokens). t then x) (tokens_back ts f (omega arith))

  lists_back : (ls : Lists) (f : ℕ) → length (list_entries ls) < f → lists_f f (list_entries ls) ≡ ls
  lists_back neither zero h = refl
  lists_back neither (suc f) h = refl
  lists_back (ts or ls) zero h = absurd (omega arith)
  lists_back (ts or ls) (suc f) h =
      let p = part (entries ts) (list_entries ls) (fours ts) in
      let l = length-append (entries ts) (list_entries ls) in
      ap₂ (λ (x y : List ℕ). tokens_f f x or lists_f f y) p.0 p.1
      ∙ ap₂ (λ (x : Tokens) (y : Lists). x or y) (tokens_back ts f (omega arith)) (lists_back ls f (omega arith))

pub decode_entries : (ts : Tokens) → decode (entries ts) ≡ ts
unfolding decode
decode_entries ts = tokens_back ts (suc (length (entries ts))) (omega arith)

pub entries_one : (ts us : Tokens) → entries ts ≡ entries us → ts ≡ us
entries_one ts us e = sym (decode_entries ts) ∙ ap decode e ∙ decode_entries us
