use Rattle.std.proofs.Common.{◌≡◌, drop}
use Rattle.std.specs.Prelude.{map}
use Rattle.vp_outside.specs.Files.{file_of}
use Rattle.vp_outside.specs.Loading.{file_named}
use Rattle.vp_outside.proofs.memory.store.find_file.Given as goal

-- the file has not been passed
abbrev pub invariant-loop-file : goal.invariant-loop-file
invariant-loop-file l =
    file_named l.name (map file_of (drop l.file-index l.files)) ≡ file_named l.name (map file_of l.files)
