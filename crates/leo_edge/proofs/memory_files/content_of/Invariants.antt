use Rattle.std.proofs.Common.{◌≡◌, drop}
use Rattle.leo_edge.specs.Memory.{content_of}
use Rattle.leo_edge.proofs.memory_files.content_of.Given as goal

abbrev pub invariant-loop-file : goal.invariant-loop-file
invariant-loop-file l = content_of (drop l.file-index l.files) l.name ≡ content_of l.files l.name
