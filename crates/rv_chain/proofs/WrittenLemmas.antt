-- What is written of a link, with the names and the rows of its map or without.

use Rattle.std.proofs.Common.{◌≡◌, ℕ, ◌<◌, ◌^◌, Bool, true, List, ap, subst, sym, ◌∙◌}
use Rattle.rv_map_laws.specs.Limits.{IsMap}
use Rattle.rv_map_laws.specs.Text.{map_text}
use Rattle.rv_image.specs.declared.linked.Linked.{Linked as DeclaredLinked}
use Rattle.rv_image_laws.specs.Linked.{Linked, IsLaidOut}
use Rattle.rv_image.specs.Views.{linked_of}
use Rattle.rv_image_laws.specs.Executable.{exe_of, linked_image}
use Rattle.rv_image_laws.specs.ImageOf.{ImageOf}
use Rattle.rv_image_laws.specs.FirstFault.{first_fault}
use Rattle.rv_image.proofs.LoadedAgainLemmas.{laid_out, reload_image, reload_fault}
use Rattle.rv_object_laws.specs.Object.{Object}
use Rattle.rv_link_laws.specs.declared.bounds.Ground.{Ground}
use Rattle.rv_link_laws.specs.IsProgramOf.{IsProgramOf}
use Rattle.rv_link_laws.specs.WithMap.{map_where}
use Rattle.rv_chain_laws.specs.Linking.{IsBuiltOf}

-- the names and the rows of a map are no part of its layout, nor of its executable
same_layout : (with_map : Bool) (l : Linked) → IsLaidOut (map_where with_map l) → IsLaidOut l
same_layout with_map l h = record {
  text_fills = h.text_fills;
  rodata_fills = h.rodata_fills;
  data_fills = h.data_fills;
  rodata_after_text = h.rodata_after_text;
  data_after_rodata = h.data_after_rodata;
  bss_after_data = h.bss_after_data;
  bss_ends = h.bss_ends;
  in_free = h.in_free;
  limit = h.limit;
  even = h.even;
  entry = h.entry;
}

pub whole_laid_out : (linked : DeclaredLinked) (with_map : Bool) (whole : Linked) → linked_of linked ≡ map_where with_map whole → IsMap whole.map → IsLaidOut whole
whole_laid_out linked with_map whole shown readable =
    same_layout with_map whole (subst IsLaidOut shown (laid_out linked (subst (λ l. l.map.entry < 2 ^ 64) (sym shown) readable.entry)))

pub whole_written : (with_map : Bool) (l whole : Linked) (exe : List ℕ) → l ≡ map_where with_map whole → exe ≡ exe_of l → exe ≡ exe_of whole
whole_written with_map l whole exe shown written = written ∙ ap exe_of shown

-- the whole map
pub whole_map : (l whole : Linked) (text : List ℕ) → l ≡ map_where true whole → text ≡ map_text l.map → text ≡ map_text whole.map
whole_map l whole text shown written = written ∙ ap (λ l. map_text l.map) shown

pub built_of : (os : List Object) (bounds : Ground) (relax gc : Bool) (l : Linked) (exe text : List ℕ) → IsLaidOut l → IsProgramOf os bounds relax gc l → exe ≡ exe_of l → text ≡ map_text l.map → IsBuiltOf os bounds relax gc exe text
built_of os bounds relax gc l exe text laid links written shown = record {
  linked = l;
  links = links;
  written = written;
  shown = shown;
  accepted = ap first_fault written ∙ reload_fault l laid;
  loads = subst (λ file. ImageOf file (linked_image l)) (sym written) (reload_image l laid);
}
