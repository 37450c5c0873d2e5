-- No file so far has the name.
use Rattle.std.proofs.Common.{◌≡◌, drop}
use Rattle.std.specs.Prelude.{map}
use Rattle.pq_io.specs.Shelf.{bytes_under, file_of}
use Rattle.pq_io.proofs.mem_shelf.find_file.Given as goal

abbrev pub invariant-loop-file : goal.invariant-loop-file
invariant-loop-file l =
    bytes_under (map file_of l.files) l.name ≡ bytes_under (map file_of (drop l.file-index l.files)) l.name
