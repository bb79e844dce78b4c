-- What the doors' answers mean for the listing. Assumes nothing.
use Rattle.std.proofs.Common.{◌≡◌, refl, sym, ap, ap₂, ◌∙◌, Bool, true, false, ◌&&◌, List, ◌++◌, map, ℕ, ◌+◌, ◌-◌, ◌≤◌, arith, leb, leb-true, length, take, drop, replicate, length-append, length-take, take_at}
use mathlib.Core.List.{flatten}
use Rattle.std.proofs.Math.ListN.{length-replicate, length-map}
use Rattle.base.specs.Pools.{filled}
use Rattle.def_reading.specs.Lists.{Verdict, accepted, rejected, reading}
use Rattle.def_compiling.specs.Compile.{Compiled, compiled as programs, refused as uncompiled, compile}
use Rattle.def_picking.specs.Candidates.{Picked, picked, unpicked, pick}
use Rattle.def_meaning.specs.Limits.{node_pool}
use Rattle.def_meaning.proofs.SoundLaws.{and_left}
use Rattle.printing.specs.declared.Writer.{Writer}
use Rattle.printing.specs.Writing.{Writes}
use Rattle.lines.specs.Lines.{literals_lines, cut, refused_line, literals_refused_line, got, not_got, got_lines, compiled, refused, programs_lines, listing}
use Rattle.lines.proofs.ListingLaws.{cut_flatten, programs_fit}
use Rattle.base.specs.Refusals.{number_of}
use Rattle.std.specs.Prelude.{Result, Ok, Err}
use Rattle.base.specs.declared.Refused.{Refused}
use Rattle.compiledoor.specs.declared.Compiled.{Compiled as Answer}
use Rattle.literaldoor.specs.declared.Picked.{Picked as Taking}
use Rattle.compiledoor.specs.Door as made
use Rattle.literaldoor.specs.Door as taken
use Rattle.generator.specs.Output as output
use Rattle.lister.specs.Listings.{with_room, with_programs, got_of, contents, listing_of, lent_bytes, lent_lengths}

-- the used words stand first in a pool that was filled
filled_front : (ws p q : List ℕ) (n : ℕ) → n ≡ length ws → q ≡ filled node_pool ws p → take n q ≡ ws
unfolding filled
filled_front ws p q n h e = ap (take n) e ∙ take_at ws (replicate (node_pool - length ws) 0 ++ drop node_pool p) n (sym h)

-- and are no more than it has
filled_few : (ws p q : List ℕ) (n : ℕ) → n ≡ length ws → q ≡ filled node_pool ws p → length q ≡ node_pool → n ≤ node_pool
unfolding filled
filled_few ws p q n h e l =
    let k : length (ws ++ (replicate (node_pool - length ws) 0 ++ drop node_pool p)) ≡ length ws + length (replicate (node_pool - length ws) 0 ++ drop node_pool p) = length-append ws (replicate (node_pool - length ws) 0 ++ drop node_pool p) in
    let m : length q ≡ length (ws ++ (replicate (node_pool - length ws) 0 ++ drop node_pool p)) = ap length e in
    omega arith

-- both programs are in the pools
pub record Made (o : Verdict) (n m : ℕ) (f r : List ℕ) : Type 0 where
  pub forward_few : n ≤ node_pool
  pub reverse_few : m ≤ node_pool
  pub lists : contents o ≡ compiled (take n f) (take m r) (got_of o)

pub says_made : (o : Verdict) (f r f' r' : List ℕ) (reached n m : ℕ) → length f' ≡ node_pool → length r' ≡ node_pool → made.gives reached n m ≡ made.verdict_says o → f' ≡ made.verdict_forward o f → r' ≡ made.verdict_reverse o r → Made o n m f' r'
unfolding made.verdict_says made.verdict_forward made.verdict_reverse made.compiled_says made.compiled_forward made.compiled_reverse contents got_of with_programs
says_made (rejected x place) f r f' r' reached n m lf lr e ef er = let z : ◌≡◌ {A = ℕ} 0 1 = cc in absurd (omega arith)
says_made (accepted end ts) f r f' r' reached n m lf lr e ef er = go (compile ts) refl
  where
    go : (c : Compiled) → compile ts ≡ c → Made (accepted end ts) n m f' r'
    go (uncompiled x) h = let e' : made.gives reached n m ≡ made.compiled_says end (uncompiled x) = rw h at e in let z : ◌≡◌ {A = ℕ} 0 1 = cc in absurd (omega arith)
    go (programs fw rv) h =
        let e' : made.gives reached n m ≡ made.gives end (length fw) (length rv) = rw h at e in
        let ef' : f' ≡ filled node_pool fw f = rw h at ef in
        let er' : r' ≡ filled node_pool rv r = rw h at er in
        let hn : n ≡ length fw = cc in
        let hm : m ≡ length rv = cc in record {
          forward_few = filled_few fw f f' n hn ef' lf;
          reverse_few = filled_few rv r r' m hm er' lr;
          lists = rw h (ap (λ (x : List ℕ). compiled x rv (with_room (pick ts))) (sym (filled_front fw f f' n hn ef')) ∙ ap (λ (x : List ℕ). compiled (take n f') x (with_room (pick ts))) (sym (filled_front rv r r' m hm er')));
        }

pub says_refused : (o : Verdict) (k place : ℕ) → made.refuses k place ≡ made.verdict_says o → contents o ≡ refused k place
unfolding made.verdict_says made.compiled_says contents with_programs
says_refused (rejected x p) k place e = cc
says_refused (accepted end ts) k place e = go (compile ts) refl
  where
    go : (c : Compiled) → compile ts ≡ c → with_programs (compile ts) (with_room (pick ts)) ≡ refused k place
    go (uncompiled x) h = let e' : made.refuses k place ≡ made.compiled_says end (uncompiled x) = rw h at e in rw h (cc)
    go (programs fw rv) h = let e' : made.refuses k place ≡ made.compiled_says end (programs fw rv) = rw h at e in let z : ◌≡◌ {A = ℕ} 0 1 = cc in absurd (omega arith)

-- the literals are in the buffers
pub record Taken (o : Verdict) (n rank : ℕ) (b l : List ℕ) : Type 0 where
  pub few : n ≤ lent_lengths
  pub lists : got_of o ≡ got rank (cut (take n l) b)

-- of buffers of the lent sizes
module _ (b l : List ℕ) (lb : length b ≡ lent_bytes) (ll : length l ≡ lent_lengths) where
  -- room there is room here
  same_room : (ls : List (List ℕ)) → output.fits ls b l ≡ (leb (length ls) lent_lengths && leb (length (flatten ls)) lent_bytes)
  unfolding output.fits
  same_room ls =
      ap₂ (λ (x y : ℕ). leb (length ls) x && leb (length (flatten ls)) y) ll lb

  -- all literals are cut out of what was written
  cut_written : (ls : List (List ℕ)) (b' l' : List ℕ) (n : ℕ) → n ≡ length ls → b' ≡ output.over (flatten ls) b → l' ≡ output.over (map length ls) l → cut (take n l') b' ≡ ls
  cut_written ls b' l' n hn eb el =
      let ml : length (map length ls) ≡ n = length-map ls length ∙ sym hn in
      let tl : take n l' ≡ map length ls = ap (take n) el ∙ take_at (map length ls) (drop (length (map length ls)) l) n ml in
      ap₂ (λ (x y : List ℕ). cut x y) tl eb ∙ cut_flatten ls (drop (length (flatten ls)) b)

  pub says_taken : (o : Verdict) (b' l' : List ℕ) (reached n rank : ℕ) → taken.gives reached n rank ≡ taken.verdict_says o b l → b' ≡ taken.verdict_bytes o b l → l' ≡ taken.verdict_lengths o b l → Taken o n rank b' l'
  unfolding taken.verdict_says taken.verdict_bytes taken.verdict_lengths taken.picked_says taken.picked_bytes taken.picked_lengths output.bytes_left output.lengths_left got_of with_room
  says_taken (rejected x place) b' l' reached n rank e eb el = let z : ◌≡◌ {A = ℕ} 0 1 = cc in absurd (omega arith)
  says_taken (accepted end ts) b' l' reached n rank e eb el = go (pick ts) refl
    where
      fit : (r : ℕ) (ls : List (List ℕ)) (t : Bool) → output.fits ls b l ≡ t → pick ts ≡ picked r ls → Taken (accepted end ts) n rank b' l'
      fit r ls false f h = let e' : taken.gives reached n rank ≡ taken.refuses 18 0 = rw (h, f) at e in let z : ◌≡◌ {A = ℕ} 0 1 = cc in absurd (omega arith)
      fit r ls true f h =
          let e' : taken.gives reached n rank ≡ taken.gives end (length ls) r = rw (h, f) at e in
          let hn : n ≡ length ls = cc in
          let hr : rank ≡ r = cc in
          let eb' : b' ≡ output.over (flatten ls) b = rw (h, f) at eb in
          let el' : l' ≡ output.over (map length ls) l = rw (h, f) at el in
          let g : (leb (length ls) lent_lengths && leb (length (flatten ls)) lent_bytes) ≡ true = sym (same_room ls) ∙ f in record {
            few = let k : length ls ≤ lent_lengths = leb-true (length ls) lent_lengths (and_left (leb (length ls) lent_lengths) (leb (length (flatten ls)) lent_bytes) g) in omega arith;
            lists = rw (h, g) (ap₂ got (sym hr) (sym (cut_written ls b' l' n hn eb' el')));
          }

      go : (c : Picked) → pick ts ≡ c → Taken (accepted end ts) n rank b' l'
      go (unpicked x) h = let e' : taken.gives reached n rank ≡ taken.picked_says end (unpicked x) b l = rw h at e in let z : ◌≡◌ {A = ℕ} 0 1 = cc in absurd (omega arith)
      go (picked r ls) h = fit r ls (output.fits ls b l) refl h

  pub says_untaken : (o : Verdict) (k place : ℕ) → taken.refuses k place ≡ taken.verdict_says o b l → got_of o ≡ not_got k
  unfolding taken.verdict_says taken.picked_says got_of with_room
  says_untaken (rejected x p) k place e = cc
  says_untaken (accepted end ts) k place e = go (pick ts) refl
    where
      fit : (r : ℕ) (ls : List (List ℕ)) (t : Bool) → output.fits ls b l ≡ t → pick ts ≡ picked r ls → with_room (pick ts) ≡ not_got k
      fit r ls true f h = let e' : taken.refuses k place ≡ taken.gives end (length ls) r = rw (h, f) at e in let z : ◌≡◌ {A = ℕ} 0 1 = cc in absurd (omega arith)
      fit r ls false f h =
          let e' : taken.refuses k place ≡ taken.refuses 18 0 = rw (h, f) at e in
          let hk : k ≡ 18 = cc in
          let g : (leb (length ls) lent_lengths && leb (length (flatten ls)) lent_bytes) ≡ false = sym (same_room ls) ∙ f in
          rw (h, g) (ap not_got (sym hk))

      go : (c : Picked) → pick ts ≡ c → with_room (pick ts) ≡ not_got k
      go (unpicked x) h = let e' : taken.refuses k place ≡ taken.picked_says end (unpicked x) b l = rw h at e in rw h (cc)
      go (picked r ls) h = fit r ls (output.fits ls b l) refl h

  -- at the door
  pub taken_door : (t b' l' : List ℕ) (p : Taking) (r : Result Taking Refused) → r ≡ Ok p → taken.literals_said r ≡ taken.literals_says t b l → b' ≡ taken.bytes_left t b l → l' ≡ taken.lengths_left t b l → Taken (reading t) p.count p.rank b' l'
  taken_door t b' l' p r h e eb el = says_taken (reading t) b' l' p.reached p.count p.rank (ap taken.literals_said (sym h) ∙ e) eb el

  pub untaken_door : (t : List ℕ) (x : Refused) (r : Result Taking Refused) → r ≡ Err x → taken.literals_said r ≡ taken.literals_says t b l → got_of (reading t) ≡ not_got (number_of x.why)
  untaken_door t x r h e = says_untaken (reading t) (number_of x.why) x.place (ap taken.literals_said (sym h) ∙ e)

-- at the compiling door, for pools of the lent sizes
pub made_door : (t f r f' r' : List ℕ) (c : Answer) (a : Result Answer Refused) → length f ≡ node_pool → length r ≡ node_pool → length f' ≡ node_pool → length r' ≡ node_pool → a ≡ Ok c → made.compile_said a ≡ made.compile_says t f r → f' ≡ made.forward_leaves t f r → r' ≡ made.reverse_leaves t f r → Made (reading t) c.forward c.reverse f' r'
unfolding made.compile_says made.forward_leaves made.reverse_leaves
made_door t f r f' r' c a lf lr lf' lr' h e ef er =
    says_made (reading t) f r f' r' c.reached c.forward c.reverse lf' lr' (ap made.compile_said (sym h) ∙ (rw (lf, lr) at e)) (rw (lf, lr) at ef) (rw (lf, lr) at er)

pub refused_door : (t f r : List ℕ) (x : Refused) (a : Result Answer Refused) → length f ≡ node_pool → length r ≡ node_pool → a ≡ Err x → made.compile_said a ≡ made.compile_says t f r → contents (reading t) ≡ refused (number_of x.why) x.place
unfolding made.compile_says
refused_door t f r x a lf lr h e = says_refused (reading t) (number_of x.why) x.place (ap made.compile_said (sym h) ∙ (rw (lf, lr) at e))

-- the parts that are handed to the writers
pub taken_lines : {o : Verdict} {n rank : ℕ} {b l : List ℕ} → Taken o n rank b l → literals_lines rank (cut (take n l) b) ≡ got_lines (got_of o)
unfolding got_lines
taken_lines t = sym (ap got_lines t.lists)

pub untaken_lines : (o : Verdict) (k : ℕ) → got_of o ≡ not_got k → literals_refused_line k ≡ got_lines (got_of o)
unfolding got_lines
untaken_lines o k e = sym (ap got_lines e)

pub made_lines : (t : List ℕ) {n m : ℕ} {f r : List ℕ} → Made (reading t) n m f r → programs_lines (take n f) (take m r) ++ got_lines (got_of (reading t)) ≡ listing_of t
unfolding listing_of listing
made_lines t d = sym (ap listing d.lists)

pub refused_lines : (t : List ℕ) (k place : ℕ) → contents (reading t) ≡ refused k place → refused_line k place ≡ listing_of t
unfolding listing_of listing
refused_lines t k place e = sym (ap listing e)

-- a buffer that is new
abbrev pub zeros : ℕ → List ℕ
zeros n = replicate n 0

pub length_zeros : (n : ℕ) → length (zeros n) ≡ n
length_zeros n = length-replicate n 0

-- the lines of programs that small end early
pub programs_end : {u v : Writer} (f r : List ℕ) (n m : ℕ) → Writes u (programs_lines (take n f) (take m r)) v → n ≤ node_pool → m ≤ node_pool → v.at ≤ u.at + 18456
programs_end {u} {v} f r n m w h k =
    let l : length (programs_lines (take n f) (take m r)) ≤ 18456 = programs_fit (take n f) (take m r) (rw (length-take n f) (omega arith)) (rw (length-take m r) (omega arith)) in
    let e = w.put.next in
    omega arith
