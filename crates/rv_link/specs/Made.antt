-- The program of placed objects.

use Rattle.std.specs.Prelude.{ℕ, List}
use Rattle.std.specs.List.{list_any}
use Rattle.rv_image_laws.specs.Linked.{Linked}
use Rattle.rv_map_laws.specs.declared.map.SectionId.{SectionId}
use Rattle.rv_object_laws.specs.Object.{Object}
use Rattle.rv_link_laws.specs.IsLinkOf.{rows_of}
use Rattle.rv_link_laws.specs.Layout.{shown_globals}
use Rattle.rv_placement.specs.declared.placement.Placement.{Placement}
use Rattle.rv_placement.specs.Placement.{starts_of, layout_of}
use Rattle.rv_link.specs.declared.regions.Regions.{Regions}

-- with these regions, the names that they show and the rows of their statements
abbrev pub made : List SectionId → List Object → Placement → ℕ → Regions → Linked
made drops os p entry r = record {
  text = r.text.items;
  rodata = r.rodata.items;
  «data» = r.data.items;
  map = record {
    text = p.text;
    rodata = p.rodata;
    «data» = p.data;
    bss = p.bss;
    entry = entry;
    gaps = p.gaps.items;
    globals = shown_globals os (layout_of p);
    drops = drops;
    rows = rows_of (starts_of p) 1 os;
  };
  rvc = list_any (λ o. o.rvc) os;
}
