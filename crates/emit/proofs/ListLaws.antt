-- A list's program, one token more. Assumes nothing.
use Rattle.std.proofs.Common.{◌≡◌, ap, ◌∙◌, subst, Bool, List, [], ℕ, zero, suc, ◌+◌, ◌*◌, ◌/◌, ◌≤◌, ◌<◌, add-one, arith, length, get_or, drop, length-drop, Option, None}
use Rattle.std.specs.Simd.{first_chunks}
use Rattle.std.proofs.lemmas.List.{get_or-take, get_or-drop}
use Rattle.def_meaning.specs.Programs.{Item}
use Rattle.def_compiling.specs.Compiling.{add}
use Rattle.emit.specs.declared.Addend.{Addend}
use Rattle.emit.specs.Items.{entry_item, addend_of, place_of, put_count, put_last, put_out}
use Rattle.emit.specs.Lists.{added_to, entry_at, list_item, list_program}
use Rattle.emit.proofs.PutLaws.{Puts}
use Rattle.emit.proofs.HoldLaws.{Holds, Single, put_holds, entry_single, nothing_held}

pub added_none : (f : ℕ → Item) (o : List ℕ) → Holds (added_to f 0) o o 0 None
unfolding added_to
added_none f o = nothing_held o

-- one item of one word more
pub added_more : (f : ℕ → Item) (k : ℕ) (o out : List ℕ) (n : ℕ) (last : Option ℕ) (addend : Addend) (count : ℕ) (next : Option ℕ) (now : List ℕ) → Single (f k) → addend ≡ addend_of (f k) → n < length out → Holds (added_to f k) o out n last → Puts out n last addend count next now → Holds (added_to f (k + 1)) o now count next
unfolding added_to
added_more f k o out n last addend count next now s e r h (x, y, z) =
    let q : Holds (add (added_to f k) (f k)) o (put_out out n last (addend_of (f k))) (put_count n last (addend_of (f k))) (put_last last (addend_of (f k))) = put_holds (added_to f k) o out n last h (f k) s r in
    rw (add-one k, x, y, z, e) q

pub list_single : (b : Bool) (ws : List ℕ) (k : ℕ) → Single (list_item b ws k)
unfolding list_item entry_at
list_single b ws k = entry_single _ _ _

chunk_at : (n i j : ℕ) (ws : List ℕ) → i < n → j < 4 → 4 * n ≤ length ws → get_or (get_or (first_chunks 4 n ws) i []) j 0 ≡ get_or ws (4 * i + j) 0
chunk_at zero i j ws h g l = absurd (omega arith)
chunk_at (suc n) zero j ws h g l = get_or-take 4 ws j 0 g ∙ ap (λ (x : ℕ). get_or ws x 0) {x = j} {y = 4 * 0 + j} (omega arith)
chunk_at (suc n) (suc i) j ws h g l =
    chunk_at n i j (drop 4 ws) (omega arith) g (omega (arith, length-drop 4 ws))
    ∙ get_or-drop 4 ws (4 * i + j) 0
    ∙ ap (λ (x : ℕ). get_or ws x 0) {x = 4 + (4 * i + j)} {y = 4 * suc i + j} (omega arith)

-- an entry of four words
pub list_addend : (b : Bool) (ws : List ℕ) (k i : ℕ) (chunks : List (List ℕ)) (addend : Addend) → chunks ≡ first_chunks 4 (length ws / 4) ws → length chunks ≡ length ws / 4 → i ≡ place_of b (length chunks) k → i < length chunks
    → addend ≡ addend_of (entry_item (get_or (get_or chunks i []) 0 0) (get_or (get_or chunks i []) 1 0) (get_or (get_or chunks i []) 2 0)) → addend ≡ addend_of (list_item b ws k)
unfolding list_item entry_at
list_addend b ws k i chunks addend f n e h g =
    let m : 4 * (length ws / 4) ≤ length ws = omega arith in
    let z : 4 * i + 0 ≡ 4 * i = omega arith in
    let at : (j : ℕ) → j < 4 → get_or (get_or chunks i []) j 0 ≡ get_or ws (4 * i + j) 0 = λ j l. ap (λ (x : List (List ℕ)). get_or (get_or x i []) j 0) f ∙ chunk_at (length ws / 4) i j ws (omega arith) l m in
    g
    ∙ rw (at 0 (omega arith), at 1 (omega arith), at 2 (omega arith), z)
    (ap (λ (x : ℕ). addend_of (entry_at ws (4 * x))) (e ∙ ap (λ (x : ℕ). place_of b x k) n))

-- at the end
pub list_done : (b : Bool) (ws : List ℕ) (k : ℕ) (o out : List ℕ) (n : ℕ) (last : Option ℕ) → k ≡ length ws / 4 → Holds (added_to (list_item b ws) k) o out n last → Holds (list_program b ws) o out n last
unfolding list_program
list_done b ws k o out n last e h = subst (λ (x : ℕ). Holds (added_to (list_item b ws) x) o out n last) e h
