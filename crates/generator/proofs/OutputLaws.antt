-- Literals written one after another, over entries. Assumes nothing.
use Rattle.std.proofs.Common.{zero, suc, sum, ◌*◌, ◌≡◌, sym, ap, ap₂, ◌∙◌, subst, true, false, ◌⊎◌, inl, inr, List, [], ◌∷◌, ◌++◌, ℕ, ◌+◌, ◌-◌, ◌≤◌, ◌<◌, min, arith, add-one, leb, length, take, drop, length-append, drop_of_length-le, drop-cons, Ok, Err, map, le-leb}
use Rattle.std.proofs.Math.Bool.{and-false}
use mathlib.Core.List.{flatten}
use borrow.Author.Tests.{lt-leb}
use Rattle.std.proofs.Math.ListN.{set}
use Rattle.std.proofs.lemmas.List.{length-map}
use borrow.Rule.Slice.PartMut.{put_mid}
use Rattle.tallies.specs.Tallies.{count_top}
use Rattle.std.specs.List.{range_with_len}
use Rattle.std.proofs.lemmas.List.Sums.{sum_by-cons}
use Rattle.def_meaning.specs.Limits.{literal_limit, entry_limit}
use Rattle.def_meaning.specs.Tokens.{Tokens}
use Rattle.def_picking.specs.Literals.{literals}
use Rattle.def_picking.specs.Numbers.{count, literal_at}
use Rattle.def_picking.proofs.NumberLaws.{count_literals, literal_numbered}
use Rattle.spelling.specs.Writing.{Written}
use Rattle.spelling.proofs.WriteLaws.{Halfway, nothing_written, all_written, half_length, one_more, piece_more, room_one, room_piece, piece_fits}
use Rattle.base.specs.declared.Refusal.TheVariants.{NoRoom}
use Rattle.generator.specs.Output.{over, fits, answered, bytes_left, lengths_left, Generated}

-- k literals are written, in the first `at` bytes
pub record Part (ts : Tokens) (k at : ℕ) (bytes lengths bytes-now lengths-now : List ℕ) : Type 0 where
  pub bytes_so_far : Halfway (flatten (literals ts)) (flatten (drop k (literals ts))) at bytes bytes-now
  pub lengths_so_far : Halfway (map length (literals ts)) (map length (drop k (literals ts))) k lengths lengths-now

pub part_none : (ts : Tokens) (bytes lengths : List ℕ) → Part ts 0 0 bytes lengths bytes lengths
part_none ts bytes lengths = record { bytes_so_far = nothing_written (flatten (literals ts)) bytes; lengths_so_far = nothing_written (map length (literals ts)) lengths }

module _ (ts : Tokens) (n : ℕ) (n-is : n ≡ count ts) where
  pub as_many : length (literals ts) ≡ n
  as_many = count_literals ts ∙ sym n-is

  -- literal number k stands before those that follow it
  next : (k : ℕ) → k < n → drop k (literals ts) ≡ literal_at ts k ∷ drop (k + 1) (literals ts)
  next k h =
      drop-cons (literals ts) k [] (let e = as_many in omega arith)
      ∙ ap₂ (λ (l : List ℕ) (x : ℕ). l ∷ drop x (literals ts)) (literal_numbered ts k (omega arith)) (sym (add-one k))

  pub flatten_next : (k : ℕ) → k < n → flatten (drop k (literals ts)) ≡ literal_at ts k ++ flatten (drop (k + 1) (literals ts))
  unfolding flatten
  flatten_next k h = ap flatten (next k h)

  pub lengths_next : (k : ℕ) → k < n → map length (drop k (literals ts)) ≡ length (literal_at ts k) ∷ map length (drop (k + 1) (literals ts))
  lengths_next k h = ap (map length) (next k h)

  pub flatten_end : (k : ℕ) → n ≤ k → flatten (drop k (literals ts)) ≡ []
  unfolding flatten
  flatten_end k h = ap flatten (drop_of_length-le (literals ts) {i = k} (let e = as_many in omega arith))

  pub lengths_end : (k : ℕ) → n ≤ k → map length (drop k (literals ts)) ≡ []
  lengths_end k h = ap (map length) (drop_of_length-le (literals ts) {i = k} (let e = as_many in omega arith))

  -- ---- the bytes added up

  abbrev length_of : ℕ → ℕ
  length_of j = length (literal_at ts j)

  one_added : (k m : ℕ) → sum (map length_of (range_with_len k (suc m))) ≡ length_of k + sum (map length_of (range_with_len (k + 1) m))
  one_added k m = sum_by-cons (λ (x : ℕ). x) (length_of k) (map length_of (range_with_len (k + 1) m))

  pub lengths_added : (k m : ℕ) → k + m ≡ n → sum (map (λ (j : ℕ). length (literal_at ts j)) (range_with_len k m)) ≡ length (flatten (drop k (literals ts)))
  lengths_added k zero e = sym (ap length (flatten_end k (omega arith)))
  lengths_added k (suc m) e =
      let s = one_added k m in
      let r = lengths_added (k + 1) m (omega arith) in
      let a = ap length (flatten_next k (omega arith)) in
      let b = length-append (literal_at ts k) (flatten (drop (k + 1) (literals ts))) in
      omega arith

  pub lengths_few : (k m : ℕ) → k + m ≡ n → ((j : ℕ) → j < n → length (literal_at ts j) ≤ entry_limit) → sum (map (λ (j : ℕ). length (literal_at ts j)) (range_with_len k m)) ≤ entry_limit * m
  lengths_few k zero e h = omega arith
  lengths_few k (suc m) e h =
      let s = one_added k m in
      let r = lengths_few (k + 1) m (omega arith) h in
      let a = h k (omega arith) in
      omega arith

  -- ---- the bytes and the lengths written

  module _ (k at : ℕ) (bytes lengths bytes-now lengths-now : List ℕ) (p : Part ts k at bytes lengths bytes-now lengths-now) where
    pub part_all_bytes : n ≤ k → bytes-now ≡ over (flatten (literals ts)) bytes
    part_all_bytes h =
        (all_written _ bytes bytes-now at (subst (λ (l : List ℕ). Halfway (flatten (literals ts)) l at bytes bytes-now) (flatten_end k h) p.bytes_so_far)).content

    pub part_all_lengths : n ≤ k → lengths-now ≡ over (map length (literals ts)) lengths
    part_all_lengths h =
        (all_written _ lengths lengths-now k (subst (λ (l : List ℕ). Halfway (map length (literals ts)) l k lengths lengths-now) (lengths_end k h) p.lengths_so_far)).content

    module _ (h : k < n) where
      bytes_next : Halfway (flatten (literals ts)) (literal_at ts k ++ flatten (drop (k + 1) (literals ts))) at bytes bytes-now
      bytes_next = subst (λ (l : List ℕ). Halfway (flatten (literals ts)) l at bytes bytes-now) (flatten_next k h) p.bytes_so_far

      one_next : Halfway (map length (literals ts)) (length (literal_at ts k) ∷ map length (drop (k + 1) (literals ts))) k lengths lengths-now
      one_next = subst (λ (l : List ℕ). Halfway (map length (literals ts)) l k lengths lengths-now) (lengths_next k h) p.lengths_so_far

      -- the next literal has room in what is lent
      pub next_room : length (flatten (literals ts)) ≤ length bytes → (at ≤ length bytes-now) × (length (literal_at ts k) ≤ length (take (length bytes-now - at) (drop at bytes-now)))
      next_room l = room_piece (flatten (literals ts)) (literal_at ts k) (flatten (drop (k + 1) (literals ts))) at bytes bytes-now bytes_next l

      pub next_fits : at + length (literal_at ts k) ≤ length (flatten (literals ts))
      next_fits = piece_fits (flatten (literals ts)) (literal_at ts k) (flatten (drop (k + 1) (literals ts))) at bytes bytes-now bytes_next

      all_lengths : n ≤ length lengths → length (map length (literals ts)) ≤ length lengths
      all_lengths l = let e = length-map (literals ts) length in let f = as_many in omega arith

      pub length_room : n ≤ length lengths → k < length lengths-now
      length_room l = room_one (map length (literals ts)) (map length (drop (k + 1) (literals ts))) (length (literal_at ts k)) k lengths lengths-now one_next (all_lengths l)

      pub part_more : (w : ℕ) (ys : List ℕ) → n ≤ length lengths → Written w (literal_at ts k) (take (length bytes-now - at) (drop at bytes-now)) ys
          → Part ts (k + 1) (at + w) bytes lengths (put_mid at (length bytes-now - at) bytes-now ys) (set lengths-now k w)
      part_more w ys l r =
          record {
            bytes_so_far = piece_more (flatten (literals ts)) (literal_at ts k) (flatten (drop (k + 1) (literals ts))) w at bytes bytes-now ys bytes_next r;
            lengths_so_far =
                subst (λ (x : ℕ). Halfway (map length (literals ts)) (map length (drop (k + 1) (literals ts))) (k + 1) lengths (set lengths-now k x)) (sym r.long)
                (one_more (map length (literals ts)) (map length (drop (k + 1) (literals ts))) (length (literal_at ts k)) k lengths lengths-now one_next (all_lengths l));
          }

    pub bytes_length : length (flatten (literals ts)) ≤ length bytes → length bytes-now ≡ length bytes
    bytes_length l = half_length (flatten (literals ts)) (flatten (drop k (literals ts))) at bytes bytes-now p.bytes_so_far l

    pub lengths_length : n ≤ length lengths → length lengths-now ≡ length lengths
    lengths_length l =
        half_length (map length (literals ts)) (map length (drop k (literals ts))) k lengths lengths-now p.lengths_so_far
        (let e = length-map (literals ts) length in let f = as_many in omega arith)

-- ---- the outcomes

-- a tally of no more than 256 is the count
pub exact : (ts : Tokens) (n : ℕ) → n ≡ min count_top (count ts) → count ts ≤ literal_limit → length (literals ts) ≡ n
exact ts n e h = let c = count_literals ts in omega arith

fit : (ls : List (List ℕ)) (bytes lengths : List ℕ) → length ls ≤ length lengths → length (flatten ls) ≤ length bytes → fits ls bytes lengths ≡ true
unfolding fits
fit ls bytes lengths h g = simp (le-leb (length ls) (length lengths) h, le-leb (length (flatten ls)) (length bytes) g)

pub all_fit : (ls : List (List ℕ)) (n : ℕ) (bytes lengths bytes_after lengths-after : List ℕ) → length ls ≡ n → n ≤ length lengths → length (flatten ls) ≤ length bytes
    → bytes_after ≡ over (flatten ls) bytes → lengths-after ≡ over (map length ls) lengths → Generated ls (Ok n) bytes lengths bytes_after lengths-after
unfolding answered bytes_left lengths_left
all_fit ls n bytes lengths bytes_after lengths-after e h g eb el =
    let f : fits ls bytes lengths ≡ true = fit ls bytes lengths (omega arith) g in
    record { answer_is = ap Ok (sym e) ∙ rw f; bytes_are = eb ∙ rw f; lengths_are = el ∙ rw f }

unfit : (ls : List (List ℕ)) (bytes lengths : List ℕ) → (length lengths < length ls) ⊎ (length bytes < length (flatten ls)) → fits ls bytes lengths ≡ false
unfolding fits
unfit ls bytes lengths (inl h) = rw (lt-leb (length ls) (length lengths) h)
unfit ls bytes lengths (inr h) = rw (lt-leb (length (flatten ls)) (length bytes) h) (and-false (leb (length ls) (length lengths)))

pub too_short : (ls : List (List ℕ)) (bytes lengths : List ℕ) → (length lengths < length ls) ⊎ (length bytes < length (flatten ls)) → Generated ls (Err NoRoom) bytes lengths bytes lengths
unfolding answered bytes_left lengths_left
too_short ls bytes lengths w =
    let e : fits ls bytes lengths ≡ false = unfit ls bytes lengths w in
    record { answer_is = rw e; bytes_are = rw e; lengths_are = rw e }
