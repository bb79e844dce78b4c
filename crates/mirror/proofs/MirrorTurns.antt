-- One turn of each of the mirror's loops. Assumes nothing.
use Rattle.std.proofs.Common.{◌≡◌, refl, sym, ap, ap₂, ◌∙◌, subst, ℕ, ◌+◌, ◌-◌, ◌≤◌, List, [], ◌∷◌, ◌++◌, Option, None, Some, IsSome, append_assoc, append-nil, reverse, length, set, take, drop, length-set, arith, ⊎_elim}
use Rattle.std.proofs.Math.Seq.{drop-length, take_all}
use Rattle.std.proofs.lemmas.List.{length-reverse}
use borrow.Rule.Slice.PartMut.{mid_of, mid_len}
use Rattle.def_meaning.specs.Programs.{Item}
use Rattle.def_meaning.specs.Words.{shape, item, opens, Sound, SoundBranches, sound_branches, mirror_words}
use Rattle.def_meaning.proofs.SoundLaws.{Marked, sound_item, sound_opens, sound_branch, false_true}
use Rattle.def_meaning.proofs.MirrorSteps.{mirror_branches_of, mirror_nil, mirror_none, mirror_item, mirror_opens, mirror_mark, mirror_flat}
use Rattle.sound.specs.Steps.{item_inside, branch_inside}
use Rattle.sound.proofs.SoundSteps.{turn_unfit, item_steps, branch_steps, branch_mark, item_kind}
use Rattle.mirror.proofs.Placing.{put, put_length, put_front, put_back}

no_words : (l : List ℕ) → length l ≡ 0 → l ≡ []
no_words [] e = refl
no_words (w ∷ l) e = absurd (omega arith)

some : (o : Option ℕ) → (o ≡ None → ⊥) → IsSome o
some (Some k) h = refl
some None h = absurd (h refl)

-- branches: what is written in front and the mirror of what is left are the mirror of all
pub record BranchesLeft (alts out bs : List ℕ) : Type 0 where
  pub sound : SoundBranches bs
  pub short : length bs ≤ length alts
  pub size : length out ≡ length alts
  pub kept : take (length alts - length bs) out ++ mirror_branches_of bs ≡ mirror_branches_of alts

pub branches_start : (alts out : List ℕ) → SoundBranches alts → length out ≡ length alts → BranchesLeft alts out alts
branches_start alts out h l = let z : length alts - length alts ≡ 0 = omega arith in record { sound = h; short = omega arith; size = l; kept = rw z }

pub branches_end : (alts out bs : List ℕ) → BranchesLeft alts out bs → length bs ≡ 0 → out ≡ mirror_branches_of alts
branches_end alts out bs b z =
    sym (append-nil out)
    ∙ ap₂ (λ (x : List ℕ) (y : List ℕ). x ++ y) (sym (take_all (length alts - length bs) out (omega (arith, b.size)))) (sym (ap mirror_branches_of (no_words bs z) ∙ mirror_none))
    ∙ b.kept

module _ {alts out bs rest : List ℕ} {w : ℕ} (b : BranchesLeft alts out bs) (e : bs ≡ w ∷ rest) where
  pub branch_some : IsSome (branch_inside w)
  branch_some = some (branch_inside w) (λ u. false_true (turn_unfit branch_steps bs w rest e u ∙ b.sound))

  module _ {k : ℕ} (i : branch_inside w ≡ Some k) where
    marked : Marked k rest
    marked = sound_branch w rest (branch_mark w k i) (subst SoundBranches e b.sound)

    pub branch_fits : k ≤ length rest
    branch_fits = marked.fits

    pub branch_turn : {own after ys : List ℕ} → own ≡ take k rest → after ≡ drop k rest → length own ≡ k → length after + k ≡ length rest → ys ≡ reverse own → BranchesLeft alts (put out ys w (length alts - length bs) (length alts - length after)) after
    branch_turn {own} {after} {ys} f g n m y =
        let t = length alts - length bs in
        let u = length alts - length after in
        let l : length bs ≡ length rest + 1 = omega (arith, ap length e) in
        let s : length ys ≡ k = ap length y ∙ length-reverse own ∙ n in
        let here : t + 1 ≤ u = omega (arith, b.short) in
        let room : u ≤ length out = omega (arith, b.size, b.short) in
        let fill : length ys ≡ u - (t + 1) = omega (arith, b.short) in
        record {
          sound = subst SoundBranches (sym g) marked.after;
          short = omega (arith, b.short);
          size = put_length out ys w t u here room fill ∙ b.size;
          kept =
              ap (λ (x : List ℕ). x ++ mirror_branches_of after) (put_front out ys w t u here room fill)
              ∙ append_assoc (take t out) (w ∷ ys) (mirror_branches_of after)
              ∙ ap (λ (x : List ℕ). take t out ++ x) (sym (
              ap mirror_branches_of e
              ∙ mirror_mark w rest k (branch_mark w k i)
              ∙ ap₂ (λ (x : List ℕ) (z : List ℕ). w ∷ (x ++ mirror_branches_of z)) (mirror_flat (take k rest) marked.inside ∙ sym (ap reverse f) ∙ sym y) (sym g)
              ))
              ∙ b.kept;
        }

-- items: the mirror of what is left and what is written behind are the mirror of all
pub record ItemsLeft (words out ns : List ℕ) : Type 0 where
  pub sound : Sound ns
  pub short : length ns ≤ length words
  pub size : length out ≡ length words
  pub kept : mirror_words ns ++ drop (length ns) out ≡ mirror_words words

pub items_start : (words out : List ℕ) → Sound words → length out ≡ length words → ItemsLeft words out words
items_start words out h l = record {
  sound = h;
  short = omega arith;
  size = l;
  kept = ap (λ (x : List ℕ). mirror_words words ++ x) (ap (λ (j : ℕ). drop j out) (sym l) ∙ drop-length out) ∙ append-nil (mirror_words words);
}

pub items_end : (words out ns : List ℕ) → ItemsLeft words out ns → length ns ≡ 0 → out ≡ mirror_words words
items_end words out ns b z = sym (ap (λ (l : List ℕ). mirror_words l ++ drop (length l) out) (no_words ns z) ∙ ap (λ (x : List ℕ). x ++ out) mirror_nil) ∙ b.kept

-- what an item holds, be it one word or an alternation
record Held (w k : ℕ) (ws : List ℕ) : Type 0 where
  fits : k ≤ length ws
  inside : SoundBranches (take k ws)
  after : Sound (drop k ws)
  words : mirror_words (w ∷ ws) ≡ mirror_words (drop k ws) ++ (w ∷ mirror_branches_of (take k ws))

held : (w k : ℕ) (ws : List ℕ) → Sound (w ∷ ws) → item_inside w ≡ Some k → Held w k ws
unfolding sound_branches
held w k ws h i = ⊎_elim opened single (item_kind w k i)
  where
    opened : shape w ≡ opens k → Held w k ws
    opened e = let o = sound_opens w ws e h in record { fits = o.fits; inside = o.inside; after = o.after; words = mirror_opens w ws k e }

    single : (j : Item) × (shape w ≡ item j) × (k ≡ 0) → Held w k ws
    single (j, e, z) = subst (λ (n : ℕ). Held w n ws) (sym z) (record {
      fits = omega arith;
      inside = refl;
      after = sound_item w ws e h;
      words = mirror_item w ws e ∙ ap (λ (x : List ℕ). mirror_words ws ++ (w ∷ x)) (sym mirror_none);
    })

-- of a sound program, what an item at its front holds are branches
pub item_inside_lem : (ns rest : List ℕ) (w k : ℕ) → Sound ns → ns ≡ w ∷ rest → item_inside w ≡ Some k → SoundBranches (take (1 + k - 1) (drop 1 ns))
item_inside_lem ns rest w k h e i =
    let q : k ≡ 1 + k - 1 = omega arith in
    rw e (subst (λ (j : ℕ). SoundBranches (take j rest)) q (held w k rest (subst Sound e h) i).inside)

module _ {words out ns rest : List ℕ} {w : ℕ} (b : ItemsLeft words out ns) (e : ns ≡ w ∷ rest) where
  pub item_some : IsSome (item_inside w)
  item_some = some (item_inside w) (λ u. false_true (turn_unfit item_steps ns w rest e u ∙ b.sound))

  module _ {k : ℕ} (i : item_inside w ≡ Some k) where
    here : Held w k rest
    here = held w k rest (subst Sound e b.sound) i

    pub item_fits : k ≤ length rest
    item_fits = here.fits

    pub item_sound : {own : List ℕ} → own ≡ take k rest → SoundBranches own
    item_sound f = subst SoundBranches (sym f) here.inside

    module _ (own after : List ℕ) (n : length own ≡ k) (m : length after + k ≡ length rest) where
      pub item_room : length (mid_of (length after + 1) (length ns - (length after + 1)) (set out (length after) w)) ≡ length own
      item_room =
          let l : length ns ≡ length rest + 1 = omega (arith, ap length e) in
          mid_len (length after + 1) (length ns) (set out (length after) w) (omega (arith, length-set out (length after) w, b.size, b.short)) ∙ omega arith

      pub item_turn : {ys : List ℕ} → own ≡ take k rest → after ≡ drop k rest → ys ≡ mirror_branches_of own → length ys ≡ length own → ItemsLeft words (put out ys w (length after) (length ns)) after
      item_turn {ys} f g y s =
          let l : length ns ≡ length rest + 1 = omega (arith, ap length e) in
          let room : length ns ≤ length out = omega (arith, b.size, b.short) in
          let fill : length ys ≡ length ns - (length after + 1) = omega arith in
          record {
            sound = subst Sound (sym g) here.after;
            short = omega (arith, b.short);
            size = put_length out ys w (length after) (length ns) (omega arith) room fill ∙ b.size;
            kept =
                ap (λ (x : List ℕ). mirror_words after ++ x) (put_back out ys w (length after) (length ns) (omega arith) room fill)
                ∙ sym (append_assoc (mirror_words after) (w ∷ ys) (drop (length ns) out))
                ∙ ap (λ (x : List ℕ). x ++ drop (length ns) out) (sym (
                ap mirror_words e
                ∙ here.words
                ∙ ap₂ (λ (x : List ℕ) (z : List ℕ). mirror_words x ++ (w ∷ z)) (sym g) (sym (ap mirror_branches_of f) ∙ sym y)
                ))
                ∙ b.kept;
          }
