-- Laws of a writer: one run of bytes after another. Assumes nothing.
use Rattle.std.proofs.Common.{◌≡◌, List, [], ◌++◌, ℕ, ◌+◌, ◌<◌, length, get_or, take, refl, ap, ◌∙◌, append_assoc}
use mathlib.Core.List.{flat_map}
use Rattle.printing.specs.declared.Writer.{Writer}
use Rattle.printing.specs.Writing.{Writes}
use Rattle.printing.proofs.LaidLaws.{put_none, put_then, put_same, put_length, flat_map_more}

pub writes_none : (w : Writer) → Writes w [] w
writes_none w = record { same = refl; put = put_none w.out.now w.at }

pub writes_then : {u v w : Writer} {xs bs : List ℕ} → Writes u xs v → Writes v bs w → Writes u (xs ++ bs) w
writes_then a b = record { same = b.same ∙ a.same; put = put_then a.put b.put }

pub writes_three : {u v w x : Writer} {xs ys zs : List ℕ} → Writes u xs v → Writes v ys w → Writes w zs x → Writes u (xs ++ (ys ++ zs)) x
writes_three a b c = writes_then a (writes_then b c)

-- other bytes that are the same
pub writes_same : {u v : Writer} {xs : List ℕ} (bs : List ℕ) → Writes u xs v → xs ≡ bs → Writes u bs v
writes_same bs a e = record { same = a.same; put = put_same bs a.put e }

-- one more of a list that is written element by element, after a head
pub writes_each : (head : List ℕ) (f : ℕ → List ℕ) (s : List ℕ) (i : ℕ) {u v w : Writer} → i < length s → Writes u (head ++ flat_map f (take i s)) v → Writes v (f (get_or s i 0)) w → Writes u (head ++ flat_map f (take (i + 1) s)) w
writes_each head f s i h a b =
    writes_same (head ++ flat_map f (take (i + 1) s)) (writes_then a b)
    (append_assoc head (flat_map f (take i s)) (f (get_or s i 0)) ∙ ap (λ (x : List ℕ). head ++ x) (flat_map_more f s i h))

pub writes_length : {u v : Writer} {bs : List ℕ} → Writes u bs v → length v.out.now ≡ length u.out.now
writes_length a = put_length a.put
