use Rattle.leo_edge.proofs.Appended.{appended}
use Rattle.leo_edge.proofs.host_files.HostFilesFiles.fetch.Goals as goal

pub returns-then-eq-clause-got : goal.returns-then-eq-clause-got
returns-then-eq-clause-got g c =
    let read = c.read_within-fetched in
    appended c.args.into.now.items read.new.into.items c.args.limit read.ensures.stays read.ensures.within
