-- What the listing door leaves in 86,016 bytes: the whole listing, and never too little room. Assumes nothing.
use Rattle.std.proofs.Common.{Result, Ok, IsOk, refl, ◌≡◌, sym, ap, ◌∙◌, List, ◌++◌, ℕ, ◌≤◌, arith, length, take, drop}
use Rattle.std.proofs.Math.Seq.{take-append_seam}
use Rattle.lister.specs.Listings.{listing_limit}
use Rattle.lines.specs.declared.NoRoom.{NoRoom}
use Rattle.lister.specs.Listings.{listing_of}
use Rattle.lister.proofs.Promises.{Lists, listing_room, list_whole}

pub wrote_whole : (t p q : List ℕ) (r : Result ℕ NoRoom) (n : ℕ) → listing_limit ≤ length p → Lists t p r q → r ≡ Ok n → (n ≤ listing_limit) × (take n q ≡ listing_of t)
wrote_whole t p q r n h l e =
    let w = list_whole t p r q h l in
    let a : r ≡ Ok (length (listing_of t)) = w.0 in
    let z : length (listing_of t) ≡ n = cc in
    let k : length (listing_of t) ≤ listing_limit = listing_room t in
    (omega arith, ap (λ (x : List ℕ). take n x) w.1 ∙ ap (λ (x : ℕ). take x (listing_of t ++ drop (length (listing_of t)) p)) (sym z) ∙ take-append_seam (listing_of t) (drop (length (listing_of t)) p))

pub never_short : (t p q : List ℕ) (r : Result ℕ NoRoom) → listing_limit ≤ length p → Lists t p r q → IsOk r
never_short t p q r h l = rw (list_whole t p r q h l).0 refl
