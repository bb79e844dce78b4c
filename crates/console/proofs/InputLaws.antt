-- What was read fits the buffer. Assumes nothing.
use Rattle.std.proofs.Common.{◌≡◌, ℕ, ◌≤◌, Result, Ok, subst}
use Rattle.console.specs.Inputs.{Within}

pub bytes_within : {E : Type 0} (r : Result ℕ E) (n room : ℕ) → Within r room → r ≡ Ok n → n ≤ room
bytes_within {E} r n room h e = subst (λ (x : Result ℕ E). Within x room) e h
