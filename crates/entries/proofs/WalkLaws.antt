-- What stands at the front of words. Assumes nothing.
use Rattle.std.proofs.Common.{◌≡◌, ℕ, zero, ◌*◌, [], ◌+◌, ◌-◌, ◌/◌, ◌≤◌, ◌<◌, suc, Bool, true, false, ◌&&◌, List, length, take, drop, get_or, length-drop, refl, sym, ap, ap₂, ◌∙◌, arith}
use Rattle.std.specs.List.{list_all}
use Rattle.std.specs.Simd.{first_chunks}
use Rattle.std.specs.Borrow.{Bor}
use Rattle.std.proofs.lemmas.List.{get_or-take, drop-drop}
use Rattle.std.proofs.Math.ListN.{length-take}
use Rattle.def_meaning.specs.Tokens as token
use Rattle.def_meaning.specs.Tokens.{nothing, ◌then◌, ◌or◌}
use Rattle.def_meaning.proofs.PartLaws.{to_end}
use Rattle.def_picking.specs.Literals.{is_plain, plain_list, plain_lists}
use Rattle.def_picking.specs.Runs.{plain_inside, plain_alternatives}
use Rattle.classes.proofs.EntryLaws.{one_inside}
use Rattle.classes.specs.declared.Entry.{Entry}
use Rattle.classes.specs.Entry.{entry_at, token_of}
use Rattle.entries.specs.declared.Token.{Token}
use Rattle.entries.specs.declared.Token.TheVariants.{One, Alternatives}
use Rattle.entries.specs.Words.{first_entry, branch_in, ends, inside, lists_in, width, tokens_in}
use Rattle.entries.specs.Walks.{meant, words_of, IsFront, IsList}
use Rattle.entries.proofs.StepLaws.{branch_end, branch_step, ends_le, ends_long, lists_end, lists_step, tokens_end, tokens_step, width_le, width_long, width_entry, width_inside, by_entries}
use Rattle.entries.proofs.PlainLaws.{token_alternatives, token_entry}

pub head_at : (ws head : List ℕ) → head ≡ take 4 ws → (i : ℕ) → i < 4 → get_or head i 0 ≡ get_or ws i 0
head_at ws head e i h = rw e (get_or-take 4 ws i 0 h)

pub entry_front : (ws head : List ℕ) → head ≡ take 4 ws → entry_at head ≡ entry_at ws
entry_front ws head g = rw (head_at ws head g 0 (omega arith), head_at ws head g 1 (omega arith), head_at ws head g 2 (omega arith))

module _ (ws : List ℕ) (h : 4 ≤ length ws) where
  pub front_entry : (head rest : List ℕ) (e : Entry) → head ≡ take 4 ws → (get_or head 0 0 ≡ 5 → ⊥) → token_of e ≡ entry_at head → rest ≡ drop 4 ws → IsFront ws (One e) rest
  front_entry head rest e g f t r =
      let k : get_or ws 0 0 ≡ 5 → ⊥ = λ q. f (head_at ws head g 0 (omega arith) ∙ q) in
      let w = width_entry ws k in
      record { long = h; is = t ∙ entry_front ws head g ∙ sym (token_entry ws k); wide = sym w; left = rw w r }

  pub front_alternatives : (head rest : List ℕ) (e : ℕ) (ls : Bor (List ℕ)) → head ≡ take 4 ws → get_or head 0 0 ≡ 5 → (e ≡ ends ws) × (4 ≤ e) × (e ≤ length ws)
      → ls.now ≡ take (e - 4) (drop 4 ws) → rest ≡ take (length ws - e) (drop e ws) → IsFront ws (Alternatives ls) rest
  front_alternatives head rest e ls g k b i r =
      let q : get_or ws 0 0 ≡ 5 = sym (head_at ws head g 0 (omega arith)) ∙ k in
      let w = width_inside ws q in
      let n : ls.now ≡ inside ws = i ∙ ap (λ (x : ℕ). take (x - 4) (drop 4 ws)) b.0 in
      record {
        long = h;
        is = ap (λ (l : List ℕ). token.Alternatives (lists_in l)) n ∙ sym (token_alternatives ws q);
        wide = omega (arith, b, w, ap length i, length-take {A = ℕ}, length-drop {A = ℕ});
        left = rw w (r ∙ to_end e ws ∙ ap (λ (x : ℕ). drop x ws) b.0);
      }

  pub front_list : (list rest : List ℕ) (e : ℕ) → e ≡ ends ws → list ≡ take (e - 4) (drop 4 ws) → rest ≡ take (length ws - e) (drop e ws) → IsList ws list rest
  front_list list rest e b i r =
      record { long = h; is = i ∙ ap (λ (x : ℕ). take (x - 4) (drop 4 ws)) b; left = r ∙ to_end e ws ∙ ap (λ (x : ℕ). drop x ws) b }

-- ---- what walks find, one after another

pub token_next : (ws : List ℕ) (t : Token) (rest : List ℕ) → IsFront ws t rest → tokens_in ws ≡ meant t then tokens_in rest
token_next ws t rest f = tokens_step ws f.long ∙ ap₂ (λ (x : token.Token) (l : List ℕ). x then tokens_in l) (sym f.is) (sym f.left)

pub list_next : (ws list rest : List ℕ) → IsList ws list rest → lists_in ws ≡ branch_in list or lists_in rest
list_next ws list rest f = lists_step ws f.long ∙ ap₂ (λ (x l : List ℕ). branch_in x or lists_in l) (sym f.is) (sym f.left)

-- the words of what is found, and what is left
pub token_words : (ws : List ℕ) (t : Token) (rest : List ℕ) → IsFront ws t rest → words_of t + length rest ≡ length ws
token_words ws t rest f = omega (arith, f.wide, ap length f.left, length-drop (width ws) ws, width_le ws f.long)

pub token_wide : (ws : List ℕ) (t : Token) (rest : List ℕ) → IsFront ws t rest → 4 ≤ words_of t
token_wide ws t rest f = omega (arith, f.wide, width_long ws f.long)

pub list_words : (ws list rest : List ℕ) → IsList ws list rest → length list + 4 + length rest ≡ length ws
list_words ws list rest f =
    omega (arith, ap length f.is, length-take (ends ws - 4) (drop 4 ws), length-drop 4 ws, ap length f.left, length-drop (ends ws) ws, ends_le ws, ends_long ws f.long)

-- the chunks of four words are the entries of a list without alternatives
chunk_at : (k i : ℕ) (ws : List ℕ) → i < k → get_or (first_chunks 4 k ws) i [] ≡ take 4 (drop (4 * i) ws)
chunk_at zero i ws h = absurd (omega arith)
chunk_at (suc k) zero ws h = refl
chunk_at (suc k) (suc i) ws h = let e : 4 + 4 * i ≡ 4 * suc i = omega arith in chunk_at k i (drop 4 ws) (omega arith) ∙ ap (take 4) (drop-drop (4 * i) 4 ws ∙ ap (λ (x : ℕ). drop x ws) e)

-- at the chunk with number i: what is left of the words, its entry, and what is left after it
module _ (ws : List ℕ) (i : ℕ) (head : List ℕ) (h : i < length ws / 4) (e : head ≡ get_or (first_chunks 4 (length ws / 4) ws) i []) where
  pub chunk_long : 4 ≤ length (drop (4 * i) ws)
  chunk_long = omega (arith, length-drop (4 * i) ws)

  pub chunk_entry : entry_at head ≡ first_entry (drop (4 * i) ws)
  chunk_entry = entry_front (drop (4 * i) ws) head (e ∙ chunk_at (length ws / 4) i ws h)

  pub chunk_left : drop 4 (drop (4 * i) ws) ≡ drop (4 * (i + 1)) ws
  chunk_left = let n : 4 * i + 4 ≡ 4 * (i + 1) = omega arith in drop-drop 4 (4 * i) ws ∙ ap (λ (x : ℕ). drop x ws) n

-- ---- whether all is plain

-- entries of four words each
pub plain_entries : (ws : List ℕ) → list_all (λ e. is_plain (entry_at e)) (first_chunks 4 (length ws / 4) ws) ≡ plain_list (branch_in ws)
unfolding plain_list
plain_entries =
    by_entries (λ ws. list_all (λ e. is_plain (entry_at e)) (first_chunks 4 (length ws / 4) ws) ≡ plain_list (branch_in ws))
    (λ ws h. let z : length ws / 4 ≡ 0 = omega arith in rw (z, branch_end ws h)) (λ ws h e.
    let n : length ws / 4 ≡ suc (length (drop 4 ws) / 4) = omega (arith, length-drop 4 ws) in
    rw (n, branch_step ws h) (ap₂ (λ (t : token.Token) (b : Bool). is_plain t && b) (entry_front ws (take 4 ws) refl) e))

module _ (ws list rest : List ℕ) (f : IsList ws list rest) where
  pub lists_stop : plain_list (branch_in list) ≡ false → plain_lists (lists_in ws) ≡ false
  unfolding plain_lists
  lists_stop e = rw (list_next ws list rest f, e)

  pub lists_more : plain_list (branch_in list) ≡ true → plain_lists (lists_in ws) ≡ plain_lists (lists_in rest)
  unfolding plain_lists
  lists_more e = rw (list_next ws list rest f, e)

pub lists_done : (ws : List ℕ) → length ws < 4 → plain_lists (lists_in ws) ≡ true
unfolding plain_lists
lists_done ws h = rw (lists_end ws h)

module _ (ws : List ℕ) (t : Token) (rest : List ℕ) (f : IsFront ws t rest) where
  pub tokens_stop : (ls : Bor (List ℕ)) → t ≡ Alternatives ls → plain_lists (lists_in ls.now) ≡ false → plain_alternatives (tokens_in ws) ≡ false
  unfolding plain_alternatives plain_inside
  tokens_stop ls e g = rw (token_next ws t rest f, e, g)

  pub tokens_more : (ls : Bor (List ℕ)) → t ≡ Alternatives ls → plain_lists (lists_in ls.now) ≡ true → plain_alternatives (tokens_in ws) ≡ plain_alternatives (tokens_in rest)
  unfolding plain_alternatives plain_inside
  tokens_more ls e g = rw (token_next ws t rest f, e, g)

  pub tokens_pass : (e : Entry) → t ≡ One e → plain_alternatives (tokens_in ws) ≡ plain_alternatives (tokens_in rest)
  unfolding plain_alternatives
  tokens_pass e q = rw (token_next ws t rest f, q, one_inside e)

pub tokens_done : (ws : List ℕ) → length ws < 4 → plain_alternatives (tokens_in ws) ≡ true
unfolding plain_alternatives
tokens_done ws h = rw (tokens_end ws h)
