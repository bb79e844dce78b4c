-- Where scoring may stop. Assumes nothing.
use Rattle.std.proofs.Common.{◌≡◌, sym, ap, ◌∙◌, ℕ, ◌-◌, ◌≤◌, arith, drop, Option, Some, None, Result, Ok}
use Rattle.def_meaning.specs.Tokens.{Tokens}
use Rattle.atoms.specs.Score.{literal_score}
use Rattle.def_picking.specs.Literals.{literals}
use Rattle.def_picking.specs.Candidates.{lowest, least, ranked}
use Rattle.picks.specs.declared.Pick.{Pick}
use Rattle.picks.specs.declared.TooMany.{TooMany}
use Rattle.picks.specs.Ranks.{Settles, Beaten}
use Rattle.ranking.proofs.RankLaws.{lowest_le}
use Rattle.picks.proofs.WinnerLaws.{settled}

module _ (ts : Tokens) (penalty : ℕ) (b : Result (Option Pick) TooMany) where
  -- all literals are scored
  pub worth_all : (x y : ℕ) → least literal_score (literals ts) ≡ x → y ≡ x - penalty → Settles b (Ok (Some y)) (ranked (least literal_score (literals ts) - penalty))
  worth_all x y e f = settled b (Ok (Some y)) (ranked (least literal_score (literals ts) - penalty)) (ap ranked (f ∙ ap (λ (n : ℕ). n - penalty) (sym e)))

  module _ (k x y : ℕ) (so_far : least literal_score (literals ts) ≡ lowest literal_score (drop k (literals ts)) x) (most : y ≡ x - penalty) where
    at_most : least literal_score (literals ts) - penalty ≤ y
    at_most = let h = lowest_le literal_score (drop k (literals ts)) x in omega arith

    -- a rank of 0 cannot fall
    pub worth_none : y ≡ 0 → Settles b (Ok (Some 0)) (ranked (least literal_score (literals ts) - penalty))
    worth_none z = settled b (Ok (Some 0)) (ranked (least literal_score (literals ts) - penalty)) (ap ranked (let h = at_most in omega arith))

    -- nor can one that changes nothing rise
    pub worth_beaten : Beaten b y → Settles b (Ok None) (ranked (least literal_score (literals ts) - penalty))
    worth_beaten h = h (least literal_score (literals ts) - penalty) at_most
