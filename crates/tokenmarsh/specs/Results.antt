-- What the C functions' structs say, in 01's answers. Assumes nothing: these are definitions.
-- To be believed: `read_told` `compile_told` `literals_told` `mirror_told` `check_told` `tail_told`.
use Rattle.std.specs.Prelude.{List, ℕ, ◌-◌, take, drop}
use Rattle.readdoor.specs.Door as readdoor
use Rattle.compiledoor.specs.Door as compiledoor
use Rattle.literaldoor.specs.Door as literaldoor
use Rattle.mirror.specs.MirrorDoor.{MirrorSaid, mirrored, refuses}
use Rattle.checkdoors.specs.Doors as doors
use Rattle.tokenmarsh.specs.declared.ReadResult.{ReadResult}
use Rattle.tokenmarsh.specs.declared.CompileResult.{CompileResult}
use Rattle.tokenmarsh.specs.declared.LiteralsResult.{LiteralsResult}
use Rattle.tokenmarsh.specs.declared.MirrorResult.{MirrorResult}
use Rattle.tokenmarsh.specs.declared.CheckResult.{CheckResult}
use Rattle.tokenmarsh.specs.declared.TailResult.{TailResult}

-- The struct for each answer: `refusal` is 0 where there is none, and a field of which the answer makes no use is 0.

abbrev pub read_told : readdoor.ReadSaid → ReadResult
read_told (readdoor.gives reached words) = record { refusal = 0; place = 0; reached = reached; words = words }
read_told (readdoor.refuses n place) = record { refusal = n; place = place; reached = 0; words = 0 }

abbrev pub compile_told : compiledoor.CompileSaid → CompileResult
compile_told (compiledoor.gives reached forward reverse) = record { refusal = 0; place = 0; reached = reached; forward = forward; reverse = reverse }
compile_told (compiledoor.refuses n place) = record { refusal = n; place = place; reached = 0; forward = 0; reverse = 0 }

abbrev pub literals_told : literaldoor.LiteralsSaid → LiteralsResult
literals_told (literaldoor.gives reached count rank) = record { refusal = 0; rank = rank; place = 0; reached = reached; count = count }
literals_told (literaldoor.refuses n place) = record { refusal = n; rank = 0; place = place; reached = 0; count = 0 }

abbrev pub mirror_told : MirrorSaid → MirrorResult
mirror_told (mirrored words) = record { refusal = 0; words = words }
mirror_told (refuses n place) = record { refusal = n; words = 0 }

abbrev pub check_told : doors.CheckSaid → CheckResult
check_told (doors.found n) = record { refusal = 0; found = 1; offset = n }
check_told doors.no_match = record { refusal = 0; found = 0; offset = 0 }
check_told (doors.refuses n place) = record { refusal = n; found = 0; offset = 0 }

-- the part of the haystack from the end that was found to the window's end; else the empty part at 0
abbrev pub tail_told : ℕ → doors.CheckSaid → TailResult
tail_told e (doors.found n) = record { offset = n; length = e - n }
tail_told e doors.no_match = record { offset = 0; length = 0 }
tail_told e (doors.refuses n place) = record { offset = 0; length = 0 }

-- the bytes of such a part
abbrev pub tail_bytes : TailResult → List ℕ → List ℕ
tail_bytes r hay = take r.length (drop r.offset hay)
