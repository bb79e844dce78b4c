-- Of some candidates there is one best, and comparing them one after another finds it. Assumes nothing.
use Rattle.std.proofs.Common.{◌≡◌, refl, sym, ap, ◌∙◌, subst, Bool, true, false, cond, ◌⊎◌, inl, inr, ⊎_elim, ◌↔◌, List, [], ◌∷◌, ◌++◌, append-nil, append_assoc, ℕ}
use mathlib.Core.List.{Memᴰ}
use mathlib.Core.List.Memᴰ
use Rattle.def_meaning.specs.Tokens.{Tokens}
use Rattle.def_reading.proofs.PieceLaws.{never}
use Rattle.def_picking.specs.Candidates.{Candidate, unranked, chosen, too_many_literals}
use Rattle.def_promise.specs.Winners.{FirstBest, Best}
use Rattle.def_promise.specs.Winners as table

-- two places in a list are one, or one of them comes before the other
places : {A : Type 0} (a b : List A) (x y : A) (c d : List A) → a ++ (x ∷ c) ≡ b ++ (y ∷ d) → (x ≡ y) ⊎ ((Memᴰ x b × Memᴰ y c) ⊎ (Memᴰ y a × Memᴰ x d))
places [] [] x y c d e = inl (cc)
places {A = A} [] (z ∷ b) x y c d e =
    let f : x ≡ z = cc in
    let g : c ≡ b ++ (y ∷ d) = cc in
    inr (inl (Memᴰ.head f, subst (λ (l : List A). Memᴰ y l) (sym g) (Memᴰ.append_right b (Memᴰ.head refl))))
places {A = A} (z ∷ a) [] x y c d e =
    let f : z ≡ y = cc in
    let g : a ++ (x ∷ c) ≡ d = cc in
    inr (inr (Memᴰ.head (sym f), subst (λ (l : List A). Memᴰ x l) g (Memᴰ.append_right a (Memᴰ.head refl))))
places {A = A} (z ∷ a) (w ∷ b) x y c d e = go (places a b x y c d (let g : a ++ (x ∷ c) ≡ b ++ (y ∷ d) = cc in g))
  where
    go : (x ≡ y) ⊎ ((Memᴰ x b × Memᴰ y c) ⊎ (Memᴰ y a × Memᴰ x d)) → (x ≡ y) ⊎ ((Memᴰ x (w ∷ b) × Memᴰ y c) ⊎ (Memᴰ y (z ∷ a) × Memᴰ x d))
    go (inl f) = inl f
    go (inr (inl (m, n))) = inr (inl (Memᴰ.tail m, n))
    go (inr (inr (m, n))) = inr (inr (Memᴰ.tail m, n))

-- there is one first of the best, and so one best
module _ (Beats : Candidate → Candidate → Type 0) where
  first_in : (cs : List Candidate) (b : Candidate) → FirstBest Beats cs b → Memᴰ b cs
  first_in cs b f = subst (λ (l : List Candidate). Memᴰ b l) (sym f.stands) (Memᴰ.append_right f.earlier (Memᴰ.head refl))

  first_one : (cs : List Candidate) (b d : Candidate) → FirstBest Beats cs b → FirstBest Beats cs d → b ≡ d
  first_one cs b d f g = go (places f.earlier g.earlier b d f.later g.later (sym f.stands ∙ g.stands))
    where
      go : (b ≡ d) ⊎ ((Memᴰ b g.earlier × Memᴰ d f.later) ⊎ (Memᴰ d f.earlier × Memᴰ b g.later)) → b ≡ d
      go (inl e) = e
      go (inr (inl (m, n))) = absurd (f.unbeaten d n (g.beats_earlier b m))
      go (inr (inr (m, n))) = absurd (g.unbeaten b n (f.beats_earlier d m))

  pub best_one : (cs : List Candidate) {c d : Candidate} → Best Beats cs c → Best Beats cs d → c ≡ d
  best_one cs (table.too_many m) (table.too_many k) = refl
  best_one cs (table.too_many m) (table.none_ranked a) = a too_many_literals m
  best_one cs (table.too_many m) (table.first few f) = absurd (few m)
  best_one cs (table.none_ranked a) (table.too_many m) = sym (a too_many_literals m)
  best_one cs (table.none_ranked a) (table.none_ranked b) = refl
  best_one cs (table.none_ranked a) (table.first {n = n} {us = us} few f) = sym (a (chosen n us) (first_in cs (chosen n us) f))
  best_one cs (table.first few f) (table.too_many m) = absurd (few m)
  best_one cs (table.first {n = n} {us = us} few f) (table.none_ranked a) = a (chosen n us) (first_in cs (chosen n us) f)
  best_one cs (table.first {n = n} {us = us} few f) (table.first {n = m} {us = ts} not g) = first_one cs (chosen n us) (chosen m ts) f g

-- ---- the best by computing

-- a candidate against the next, where it is tested which of two ranked ones is taken
abbrev pub against_next : (ℕ → Tokens → ℕ → Tokens → Bool) → Candidate → Candidate → Candidate
against_next over unranked d = d
against_next over (chosen m ts) unranked = chosen m ts
against_next over (chosen m ts) (chosen n us) = cond (over n us m ts) (chosen n us) (chosen m ts)
against_next over (chosen m ts) too_many_literals = too_many_literals
against_next over too_many_literals d = too_many_literals

abbrev pub best_from : (ℕ → Tokens → ℕ → Tokens → Bool) → Candidate → List Candidate → Candidate
best_from over c [] = c
best_from over c (d ∷ ds) = best_from over (against_next over c d) ds

-- a relation between candidates, by what it says of ranked ones
abbrev pub Ranking : (ℕ → Tokens → ℕ → Tokens → Type 0) → Candidate → Candidate → Type 0
Ranking Over unranked d = ⊥
Ranking Over (chosen n us) unranked = Unit {0}
Ranking Over (chosen n us) (chosen m ts) = Over n us m ts
Ranking Over (chosen n us) too_many_literals = ⊥
Ranking Over too_many_literals d = ⊥

-- it is tested, and it orders
pub record Ordered (Beats : Candidate → Candidate → Type 0) (Over : ℕ → Tokens → ℕ → Tokens → Type 0) (over : ℕ → Tokens → ℕ → Tokens → Bool) : Type 0 where
  pub told : (c d : Candidate) → Beats c d → Ranking Over c d
  pub shown : (c d : Candidate) → Ranking Over c d → Beats c d
  pub passes : (n m : ℕ) (us ts : Tokens) → over n us m ts ≡ true → Over n us m ts
  pub fails : (n m : ℕ) (us ts : Tokens) → over n us m ts ≡ false → Over n us m ts → ⊥
  pub chains : (n m k : ℕ) (us ts vs : Tokens) → Over n us m ts → Over m ts k vs → Over n us k vs
  pub outdoes : (n m k : ℕ) (us ts vs : Tokens) → Over n us m ts → (Over k vs m ts → ⊥) → Over n us k vs

module _ (Beats : Candidate → Candidate → Type 0) (Over : ℕ → Tokens → ℕ → Tokens → Type 0) (over : ℕ → Tokens → ℕ → Tokens → Bool) (o : Ordered Beats Over over) where
  not_full : (cs : List Candidate) (d : Candidate) → (Memᴰ too_many_literals cs → ⊥) → (too_many_literals ≡ d → ⊥) → Memᴰ too_many_literals (cs ++ (d ∷ [])) → ⊥
  not_full cs d f g m = ⊎_elim f (λ (k : Memᴰ too_many_literals (d ∷ [])). g (Memᴰ.eq_of_singleton k)) (Memᴰ.append_cases cs m)

  -- one that comes after all is the best, or the best stays
  comes_first : (cs : List Candidate) (d : Candidate) → ((c : Candidate) → Memᴰ c cs → Beats d c) → FirstBest Beats (cs ++ (d ∷ [])) d
  comes_first cs d f = record { earlier = cs; later = []; stands = refl; beats_earlier = f; unbeaten = λ c m. absurd (Memᴰ.not-nil m) }

  stays_first : (cs : List Candidate) (b d : Candidate) → FirstBest Beats cs b → (Beats d b → ⊥) → FirstBest Beats (cs ++ (d ∷ [])) b
  stays_first cs b d f g = record {
    earlier = f.earlier;
    later = f.later ++ (d ∷ []);
    stands = ap (λ (l : List Candidate). l ++ (d ∷ [])) f.stands ∙ append_assoc f.earlier (b ∷ f.later) (d ∷ []);
    beats_earlier = f.beats_earlier;
    unbeaten = λ c m. ⊎_elim (f.unbeaten c) (λ (k : Memᴰ c (d ∷ [])). λ (h : Beats c b). g (subst (λ (x : Candidate). Beats x b) (Memᴰ.eq_of_singleton k) h)) (Memᴰ.append_cases f.later m);
  }

  -- what beats the best beats all
  past_earlier : (n m : ℕ) (us ts : Tokens) (c : Candidate) → Over n us m ts → Ranking Over (chosen m ts) c → Ranking Over (chosen n us) c
  past_earlier n m us ts unranked h k = tt
  past_earlier n m us ts (chosen i vs) h k = o.chains n m i us ts vs h k
  past_earlier n m us ts too_many_literals h k = k

  past_later : (n m : ℕ) (us ts : Tokens) (c : Candidate) → Over n us m ts → (c ≡ too_many_literals → ⊥) → (Ranking Over c (chosen m ts) → ⊥) → Ranking Over (chosen n us) c
  past_later n m us ts unranked h f k = tt
  past_later n m us ts (chosen i vs) h f k = o.outdoes n m i us ts vs h k
  past_later n m us ts too_many_literals h f k = f refl

  beats_all : (cs : List Candidate) (n m : ℕ) (us ts : Tokens) → (Memᴰ too_many_literals cs → ⊥) → FirstBest Beats cs (chosen m ts) → Over n us m ts → (c : Candidate) → Memᴰ c cs → Beats (chosen n us) c
  beats_all cs n m us ts few f h c q =
      ⊎_elim
      (λ (k : Memᴰ c f.earlier). o.shown (chosen n us) c (past_earlier n m us ts c h (o.told (chosen m ts) c (f.beats_earlier c k))))
      (λ (k : Memᴰ c (chosen m ts ∷ f.later)).
      ⊎_elim
      (λ (e : c ≡ chosen m ts). subst (λ (x : Candidate). Beats (chosen n us) x) (sym e) (o.shown (chosen n us) (chosen m ts) h))
      (λ (j : Memᴰ c f.later).
      o.shown (chosen n us) c (past_later n m us ts c h (λ e. few (Memᴰ.cast (sym e) q)) (λ r. f.unbeaten c j (o.shown c (chosen m ts) r))))
      (Memᴰ.cases_cons k))
      (Memᴰ.append_cases f.earlier (subst (λ (l : List Candidate). Memᴰ c l) f.stands q))

  after_none : (cs : List Candidate) → ((c : Candidate) → Memᴰ c cs → c ≡ unranked) → (d : Candidate) → Best Beats (cs ++ (d ∷ [])) d
  after_none cs a unranked = table.none_ranked (λ c m. ⊎_elim (a c) (λ (k : Memᴰ c (unranked ∷ [])). Memᴰ.eq_of_singleton k) (Memᴰ.append_cases cs m))
  after_none cs a (chosen n us) =
      table.first (not_full cs (chosen n us) (λ m. never (let e = a too_many_literals m in cc)) (λ e. never (cc)))
      (comes_first cs (chosen n us) (λ c m. subst (λ (x : Candidate). Beats (chosen n us) x) (sym (a c m)) (o.shown (chosen n us) unranked tt)))
  after_none cs a too_many_literals = table.too_many (Memᴰ.append_right cs (Memᴰ.head refl))

  after_first : (cs : List Candidate) (m : ℕ) (ts : Tokens) → (Memᴰ too_many_literals cs → ⊥) → FirstBest Beats cs (chosen m ts) → (d : Candidate) → Best Beats (cs ++ (d ∷ [])) (against_next over (chosen m ts) d)
  after_first cs m ts few f unranked =
      table.first (not_full cs unranked few (λ e. never (cc))) (stays_first cs (chosen m ts) unranked f (λ h. o.told unranked (chosen m ts) h))
  after_first cs m ts few f (chosen n us) = go (over n us m ts) refl
    where
      full : Memᴰ too_many_literals (cs ++ (chosen n us ∷ [])) → ⊥
      full = not_full cs (chosen n us) few (λ e. never (cc))

      go : (b : Bool) → over n us m ts ≡ b → Best Beats (cs ++ (chosen n us ∷ [])) (cond b (chosen n us) (chosen m ts))
      go true e = table.first full (comes_first cs (chosen n us) (beats_all cs n m us ts few f (o.passes n m us ts e)))
      go false e = table.first full (stays_first cs (chosen m ts) (chosen n us) f (λ h. o.fails n m us ts e (o.told (chosen n us) (chosen m ts) h)))
  after_first cs m ts few f too_many_literals = table.too_many (Memᴰ.append_right cs (Memᴰ.head refl))

  next_best : (cs : List Candidate) {c : Candidate} (d : Candidate) → Best Beats cs c → Best Beats (cs ++ (d ∷ [])) (against_next over c d)
  next_best cs d (table.too_many m) = table.too_many (Memᴰ.append_left (d ∷ []) m)
  next_best cs d (table.none_ranked a) = after_none cs a d
  next_best cs d (table.first {n = m} {us = ts} few f) = after_first cs m ts few f d

  from_best : (ds cs : List Candidate) (c : Candidate) → Best Beats cs c → Best Beats (cs ++ ds) (best_from over c ds)
  from_best [] cs c b = subst (λ (l : List Candidate). Best Beats l c) (sym (append-nil cs)) b
  from_best (d ∷ ds) cs c b =
      subst (λ (l : List Candidate). Best Beats l (best_from over (against_next over c d) ds)) (append_assoc cs (d ∷ []) ds)
      (from_best ds (cs ++ (d ∷ [])) (against_next over c d) (next_best cs d b))

  pub best_is : (cs : List Candidate) (c : Candidate) → (best_from over unranked cs ≡ c) ↔ Best Beats cs c
  best_is cs c = (λ e. subst (Best Beats cs) e found, λ b. best_one Beats cs found b)
    where
      found : Best Beats cs (best_from over unranked cs)
      found = from_best cs [] unranked (table.none_ranked (λ c m. absurd (Memᴰ.not-nil m)))
