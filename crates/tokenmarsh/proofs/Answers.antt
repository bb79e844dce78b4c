-- A struct tells which answer it stands for: a refusal's number is not 0. Assumes nothing.
use Rattle.std.proofs.Common.{Option, Some, None, Result, Ok, Err, ◌≡◌, refl, sym, ap, ap₂, ◌∙◌, true≢false, ℕ, arith, eqb}
use Rattle.base.specs.declared.Refusal.{Refusal}
use Rattle.base.specs.declared.Refused.{Refused}
use Rattle.base.specs.Refusals.{number_of}
use Rattle.base.proofs.RefusalLaws.{number_one, number_some}
use Rattle.readdoor.specs.declared.Reading.{Reading}
use Rattle.readdoor.specs.Door as readdoor
use Rattle.compiledoor.specs.declared.Compiled.{Compiled}
use Rattle.compiledoor.specs.Door as compiledoor
use Rattle.literaldoor.specs.declared.Picked.{Picked}
use Rattle.literaldoor.specs.Door as literaldoor
use Rattle.mirror.specs.MirrorDoor as mirrordoor
use Rattle.checkdoors.specs.Doors as doors
use Rattle.tokenmarsh.specs.declared.ReadResult.{ReadResult}
use Rattle.tokenmarsh.specs.declared.CompileResult.{CompileResult}
use Rattle.tokenmarsh.specs.declared.LiteralsResult.{LiteralsResult}
use Rattle.tokenmarsh.specs.declared.MirrorResult.{MirrorResult}
use Rattle.tokenmarsh.specs.declared.CheckResult.{CheckResult}
use Rattle.tokenmarsh.specs.Results.{read_told, compile_told, literals_told, mirror_told, check_told}

some_number : {A : Type 0} (why : Refusal) → 0 ≡ number_of why → A
some_number {A} why e = absurd (true≢false (ap (λ (n : ℕ). eqb n 0) e ∙ number_some why))

pub read_tells : (a b : Result Reading Refused) → read_told (readdoor.read_said a) ≡ read_told (readdoor.read_said b) → a ≡ b
read_tells (Ok x) (Ok y) h = ap₂ readdoor.reads (ap (λ (r : ReadResult). r.reached) h) (ap (λ (r : ReadResult). r.words) h)
read_tells (Ok x) (Err z) h = some_number z.why (ap (λ (r : ReadResult). r.refusal) h)
read_tells (Err z) (Ok y) h = some_number z.why (sym (ap (λ (r : ReadResult). r.refusal) h))
read_tells (Err z) (Err w) h = ap₂ readdoor.refused (number_one z.why w.why (ap (λ (r : ReadResult). r.refusal) h)) (ap (λ (r : ReadResult). r.place) h)

abbrev compiled : ℕ → ℕ → ℕ → Result Compiled Refused
compiled e f r = Ok (record { reached = e; forward = f; reverse = r })

abbrev refused : Refusal → ℕ → Result Compiled Refused
refused x place = Err (record { why = x; place = place })

pub compile_tells : (a b : Result Compiled Refused) → compile_told (compiledoor.compile_said a) ≡ compile_told (compiledoor.compile_said b) → a ≡ b
compile_tells (Ok c) (Ok d) h =
    let reached : c.reached ≡ d.reached = ap (λ (r : CompileResult). r.reached) h in
    let forward : c.forward ≡ d.forward = ap (λ (r : CompileResult). r.forward) h in
    let reverse : c.reverse ≡ d.reverse = ap (λ (r : CompileResult). r.reverse) h in
    ap (λ (x : ℕ). compiled x c.forward c.reverse) reached ∙ ap₂ (compiled d.reached) forward reverse
compile_tells (Ok c) (Err x) h = some_number x.why (ap (λ (r : CompileResult). r.refusal) h)
compile_tells (Err x) (Ok d) h = some_number x.why (sym (ap (λ (r : CompileResult). r.refusal) h))
compile_tells (Err x) (Err y) h = ap₂ refused (number_one x.why y.why (ap (λ (r : CompileResult). r.refusal) h)) (ap (λ (r : CompileResult). r.place) h)

abbrev picked : ℕ → ℕ → ℕ → Result Picked Refused
picked e n k = Ok (record { reached = e; count = n; rank = k })

abbrev unpicked : Refusal → ℕ → Result Picked Refused
unpicked x place = Err (record { why = x; place = place })

pub literals_tells : (a b : Result Picked Refused) → literals_told (literaldoor.literals_said a) ≡ literals_told (literaldoor.literals_said b) → a ≡ b
literals_tells (Ok p) (Ok q) h =
    let reached : p.reached ≡ q.reached = ap (λ (r : LiteralsResult). r.reached) h in
    let count : p.count ≡ q.count = ap (λ (r : LiteralsResult). r.count) h in
    let rank : p.rank ≡ q.rank = ap (λ (r : LiteralsResult). r.rank) h in
    ap (λ (x : ℕ). picked x p.count p.rank) reached ∙ ap₂ (picked q.reached) count rank
literals_tells (Ok p) (Err x) h = some_number x.why (ap (λ (r : LiteralsResult). r.refusal) h)
literals_tells (Err x) (Ok q) h = some_number x.why (sym (ap (λ (r : LiteralsResult). r.refusal) h))
literals_tells (Err x) (Err y) h = ap₂ unpicked (number_one x.why y.why (ap (λ (r : LiteralsResult). r.refusal) h)) (ap (λ (r : LiteralsResult). r.place) h)

pub mirror_tells : (a b : Result ℕ Refusal) → mirror_told (mirrordoor.mirror_said a) ≡ mirror_told (mirrordoor.mirror_said b) → a ≡ b
mirror_tells (Ok n) (Ok m) h = ap Ok (ap (λ (r : MirrorResult). r.words) h)
mirror_tells (Ok n) (Err c) h = some_number c (ap (λ (r : MirrorResult). r.refusal) h)
mirror_tells (Err c) (Ok m) h = some_number c (sym (ap (λ (r : MirrorResult). r.refusal) h))
mirror_tells (Err c) (Err d) h = ap Err (number_one c d (ap (λ (r : MirrorResult). r.refusal) h))

pub check_tells : (a b : Result (Option ℕ) Refusal) → check_told (doors.check_said a) ≡ check_told (doors.check_said b) → a ≡ b
check_tells (Ok (Some n)) (Ok (Some m)) h = ap (λ (k : ℕ). Ok (Some k)) (ap (λ (r : CheckResult). r.offset) h)
check_tells (Ok (Some n)) (Ok None) h = absurd (let z : ◌≡◌ {A = ℕ} 1 0 = ap (λ (r : CheckResult). r.found) h in omega arith)
check_tells (Ok (Some n)) (Err c) h = some_number c (ap (λ (r : CheckResult). r.refusal) h)
check_tells (Ok None) (Ok (Some m)) h = absurd (let z : ◌≡◌ {A = ℕ} 0 1 = ap (λ (r : CheckResult). r.found) h in omega arith)
check_tells (Ok None) (Ok None) h = refl
check_tells (Ok None) (Err c) h = some_number c (ap (λ (r : CheckResult). r.refusal) h)
check_tells (Err c) (Ok (Some m)) h = some_number c (sym (ap (λ (r : CheckResult). r.refusal) h))
check_tells (Err c) (Ok None) h = some_number c (sym (ap (λ (r : CheckResult). r.refusal) h))
check_tells (Err c) (Err d) h = ap Err (number_one c d (ap (λ (r : CheckResult). r.refusal) h))
