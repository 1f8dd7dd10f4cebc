use Rattle.std.proofs.Common.{List, map, subst}
use Rattle.std.specs.List.{AllByRecursion}
use Rattle.rv_map.specs.declared.map.Global.{Global}
use Rattle.rv_map.specs.Views.{global_of}
use Rattle.rv_map_laws.specs.Limits.{IsRegion, IsGlobal, IsDrop, IsRow}
use Rattle.rv_map.proofs.writing.write.Goals as goal

pub returns-clause-readable : goal.returns-clause-readable
returns-clause-readable c =
    let head = c.in_ok-put_head.ensures.known in
    record {
      text = head.0.0;
      rodata = head.0.1;
      «data» = head.0.2;
      bss = head.0.3;
      entry = head.1;
      gaps = subst (AllByRecursion IsRegion) c.deref.ensures.value c.in_ok-put_gaps.ensures.known;
      globals = subst (λ (l : List Global). AllByRecursion IsGlobal (map global_of l)) c.deref-2.ensures.value c.in_ok-put_globals.ensures.known;
      drops = subst (AllByRecursion IsDrop) c.deref-3.ensures.value c.in_ok-put_drops.ensures.known;
      rows = subst (AllByRecursion IsRow) c.deref-4.ensures.value c.in_ok-put_rows.ensures.known;
    }
