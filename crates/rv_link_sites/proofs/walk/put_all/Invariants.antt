use Rattle.std.proofs.Common.{◌≡◌, ◌+◌, ◌++◌, drop}
use Rattle.rv_link_sites.specs.Line.{ended_files, files_sites}
use Rattle.rv_link_sites.specs.Text.{objects_of}
use Rattle.rv_link_sites.proofs.walk.put_all.Given as goal

-- what is there so far, and what is left, make up the whole
abbrev pub invariant-loop-file : goal.invariant-loop-file
invariant-loop-file l =
    let os = objects_of l.text in
    record {
      sites : l.sites.items ++ files_sites os (l.file + 1) l.stop (drop l.file os) ≡ l.fn.sites.items ++ files_sites os 1 0 os;
      ends : ended_files l.stop (drop l.file os) ≡ ended_files 0 os;
    }
