-- The executable of a linked program keeps the headline's promise.

use Rattle.std.proofs.Common.{◌≡◌, ℕ, Bool, List, refl, ap, subst, sym, ◌∙◌}
use Rattle.rv_map_laws.specs.Limits.{IsMap}
use Rattle.rv_map_laws.specs.Text.{map_text}
use Rattle.rv_image_laws.specs.Linked.{Linked, IsLaidOut}
use Rattle.rv_image_laws.specs.Executable.{exe_of, linked_image}
use Rattle.rv_elf_laws.specs.Fields.{number_in, e_flags}
use Rattle.rv_image_laws.specs.ImageOf.{ImageOf}
use Rattle.rv_image_laws.specs.FirstFault.{first_fault}
use Rattle.rv_image.proofs.LoadedAgainLemmas.{reads, reload_image, reload_fault}
use Rattle.rv_chain_laws.specs.Headline.{RunsAgree, RunsAgreeOn, TheHeadline, rvc_flag}
use Rattle.rv_chain_laws.specs.Building.{IsProgramFrom}

pub headlined : (texts : List (List ℕ)) (start : ℕ) (relax gc : Bool) (l : Linked) (exe : List ℕ) → IsLaidOut l → IsMap l.map → (program : IsProgramFrom texts start relax gc l) → RunsAgree program.sources l.map (linked_image l) → RunsAgreeOn program.sources l.map (linked_image l) → exe ≡ exe_of l
    → TheHeadline texts start relax gc exe (map_text l.map)
headlined texts start relax gc l exe laid is_map program agree on_platforms written = record {
  sources = program.sources;
  read = program.read;
  map = l.map;
  shown = refl;
  readable = is_map;
  collected = program.linked.collected;
  fits = program.linked.fits;
  sized = program.linked.sized;
  shortened = program.linked.shortened;
  resolves = program.linked.resolves;
  code = program.linked.code;
  written = program.linked.written;
  image = linked_image l;
  loads = subst (λ file. ImageOf file (linked_image l)) (sym written) (reload_image l laid);
  accepted = ap first_fault written ∙ reload_fault l laid;
  flagged = ap (number_in e_flags 0) written ∙ ap (λ h. h.e_flags) (reads l laid).fields ∙ ap rvc_flag program.flag;
  agree = agree;
  on_platforms = on_platforms;
}
