-- The object of a file without a fault.

use Rattle.std.proofs.Common.{◌≡◌, ℕ, ◌%◌, ◌==◌, ◌&&◌, List, None, drop, map, subst}
use Rattle.std.proofs.lemmas.Bool.{and_parts, eqb-true, not-false}
use Rattle.rv_elf_laws.specs.Fields.{number_in, ei_magic, ei_class, ei_data, ei_version, e_type, e_machine, e_flags}
use Rattle.rv_elf_laws.specs.FirstFault.{first_true, header_tests}
use Rattle.rv_elf_laws.specs.Numbers.{elfmag, et_rel, em_riscv}
use Rattle.rv_object_laws.specs.Object.{Object}
use Rattle.rv_object_file_laws.specs.FirstFault.{first_fault}
use Rattle.rv_object_file_laws.specs.ObjectOf.{ObjectOf, section_in, symbol_in, row_in}
use Rattle.rv_object_file_laws.specs.Parts.{kept, symbol_records, row_records}
use Rattle.rv_object_reader.proofs.FirstTrueLemmas.{all_false}
use Rattle.rv_object_reader.proofs.WalkLemmas.{fine}

-- what the first bytes of the file say
record HeadSays (file : List ℕ) : Type 0 where
  pub magic : number_in ei_magic 0 file ≡ elfmag
  pub class : number_in ei_class 0 file ≡ 2
  pub order : number_in ei_data 0 file ≡ 1
  pub version : number_in ei_version 0 file ≡ 1
  pub machine : number_in e_machine 0 file ≡ em_riscv

head_says : (file : List ℕ) → first_true (header_tests file) ≡ None → HeadSays file
unfolding header_tests
head_says file none =
    let a = all_false (header_tests file) none in
    let three = and_parts (number_in ei_class 0 file == 2 && number_in ei_data 0 file == 1) (number_in ei_version 0 file == 1) (not-false _ a.1.1.0) in
    let two = and_parts (number_in ei_class 0 file == 2) (number_in ei_data 0 file == 1) three.0 in
    record {
      magic = eqb-true (number_in ei_magic 0 file) elfmag (not-false _ a.1.0);
      class = eqb-true (number_in ei_class 0 file) 2 two.0;
      order = eqb-true (number_in ei_data 0 file) 1 two.1;
      version = eqb-true (number_in ei_version 0 file) 1 three.1;
      machine = eqb-true (number_in e_machine 0 file) em_riscv (not-false _ a.1.1.1.0);
    }

-- what is collected is the object of the file
pub record IsCollected (file : List ℕ) (o : Object) : Type 0 where
  pub sections : o.sections ≡ map (section_in file) (kept file)
  pub symbols : o.symbols ≡ map (symbol_in file) (drop 1 (symbol_records file))
  pub rows : o.rows ≡ map (row_in file) (row_records file)
  pub rvc : o.rvc ≡ (number_in e_flags 0 file % 2 == 1)

object_is : (file : List ℕ) → first_fault file ≡ None → (o : Object) → IsCollected file o → ObjectOf file o
object_is file none o c =
    let f = fine file none in
    let says = head_says file f.head in
    record {
      is_elf = says.magic;
      class = says.class;
      order = says.order;
      version = says.version;
      object = eqb-true (number_in e_type 0 file) et_rel (not-false _ f.object);
      riscv = says.machine;
      sections = c.sections;
      symbols = c.symbols;
      rows = c.rows;
      rvc = c.rvc;
    }

-- where the file that was checked is the one that was given
pub collected_is : (file checked : List ℕ) → checked ≡ file → first_fault checked ≡ None → (o : Object) → IsCollected checked o → ObjectOf file o
collected_is file checked same none o c = subst (λ f. ObjectOf f o) same (object_is checked none o c)
