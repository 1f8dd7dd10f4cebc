-- What running a file's bytes means, and why a file is not run.

use Rattle.std.specs.Prelude.{◌≡◌, ℕ, List, None, Some}
use Rattle.rv_isa_laws.specs.Word.{Spells}
use Rattle.rv_parcel.specs.Parcel.{StandsFor}
use Rattle.rv_isa_laws.specs.Hart.{Outcome}
use Rattle.rv_image_laws.specs.Image.{Image}
use Rattle.rv_image_laws.specs.ImageOf.{ImageOf}
use Rattle.rv_image_laws.specs.FirstFault.{first_fault}
use Rattle.rv_image_laws.specs.Memory.{mem_of}
use Rattle.rv_isa_laws.specs.Reader.{Reader}
use Rattle.rv_isa_laws.specs.Run.{machine_run}
use Rattle.rv_fault.specs.declared.fault.Fault.{Fault}
use Rattle.rv_fault.specs.declared.fault.Fault.TheVariants.{Source, File, Link, Memory}
use Rattle.rv_fault.specs.Fault.{IsNamed}

-- the file has no fault, and the outcome is that of the machine's run over its image
pub record RunsFile (reader : Reader Spells StandsFor) (file input : List ℕ) (limit : ℕ)
    (outcome : Outcome) : Type 0 where
  pub accepted : first_fault file ≡ None
  pub image : Image
  pub loads : ImageOf file image
  pub runs : outcome ≡ machine_run reader (mem_of image) image.entry input limit

-- a file is refused by its first fault alone; memory may run out
abbrev pub RefusesFile : List ℕ → Fault → Type 0
RefusesFile file (Source number fault) = ⊥
RefusesFile file (File number fault) =
    IsNamed (File number fault) × (number ≡ 1) × (first_fault file ≡ Some fault)
RefusesFile file (Link fault) = ⊥
RefusesFile file Memory = Unit {0}
