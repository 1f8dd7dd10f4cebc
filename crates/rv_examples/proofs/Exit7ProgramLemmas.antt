-- The worked program: what it is linked to, and its run by the machine.

use Rattle.std.proofs.Common.{◌≡◌, ℕ, zero, suc, Bool, true, false, IsTrue, [], ◌∷◌, refl, sym, ◌∙◌, lit<, arith, inl, inr, pos}
use Rattle.std.proofs.lemmas.Int.{ints}
use Rattle.std.specs.Prelude.{slice_index}
use Rattle.rv_size_laws.specs.Sites.{size_at}
use Rattle.rv_isa.specs.Ranges.{IsValid}
use Rattle.rv_isa.specs.declared.instruction.Inst.{Inst}
use Rattle.rv_isa.specs.declared.instruction.Inst.TheVariants.{Ecall}
use Rattle.rv_isa_laws.specs.Bytes.{little_endian}
use Rattle.rv_isa_laws.specs.Hart.{Exited, Astray}
use Rattle.rv_isa_laws.specs.Word.{Spells, form, word}
use Rattle.rv_parcel.specs.Parcel.{StandsFor}
use Rattle.rv_image_laws.specs.Memory.{mem_of}
use Rattle.rv_isa_laws.specs.Reader.{Reader}
use Rattle.rv_isa_laws.specs.Run.{machine_run}
use Rattle.rv_examples.specs.Exit7.{exit7, exit7_map, exits}
use Rattle.rv_examples.specs.Exit7Executable.{exit7_image, exit7_linked}
use Rattle.rv_examples.specs.Regions.{code_words}
use Rattle.rv_examples.proofs.Exit7CollectedLemmas.{collected}
use Rattle.rv_pseudo_laws.specs.Li.{addi}
use Rattle.rv_pseudo_laws.specs.Code.{Closed}
use Rattle.rv_source_laws.specs.Fits.{Fits}
use Rattle.rv_source_laws.specs.Resolves.{Resolves}
use Rattle.rv_source_laws.specs.Located.{located_from}
use Rattle.rv_source_laws.specs.Sized.{Sized}
use Rattle.rv_source_laws.proofs.SettlingLemmas.{settled_least}
use Rattle.rv_unit_laws.specs.Tables.{at_start}
use Rattle.rv_source_laws.specs.Shortened.{text_of, sites_of, HaveBytes, Shortened}
use Rattle.rv_chain_laws.specs.Contents.{IsLinked}
use Rattle.rv_size_laws.specs.Calls.{Offers, site_at, MayShorten, IsClosed, LeadsOutside, IsText}
use Rattle.rv_size_laws.specs.Steps.{Unchanged}
use Rattle.rv_size_laws.proofs.ShorteningLemmas.{shortened_greatest}
use Rattle.rv_source_laws.specs.SourceRun.{source_run}
use Rattle.rv_runs_theorems.proofs.ContentsLemmas.{linked_agrees}

-- `li a0, 7` and `li a7, 93`
abbrev first : Inst
first = addi 10 0 (pos 7)

abbrev second : Inst
second = addi 17 0 (pos 93)

valid7 : IsValid first
valid7 = (lit< tt, lit< tt, (omega (arith, ints), omega (arith, ints)))

valid93 : IsValid second
valid93 = (lit< tt, lit< tt, (omega (arith, ints), omega (arith, ints)))

fits : Fits (exit7 ∷ []) exit7_map 0x10000
fits = record {
  good = (refl, tt);
  rows = refl;
  sizes = (
    (tt, refl, omega arith, omega arith, refl),
    (
      record { valued = refl; paired = tt; taken = (tt, tt); row = ((valid7, tt), refl, omega arith, omega arith, refl); whole = λ e. absurd (cc) },
      (
        record { valued = refl; paired = tt; taken = (tt, tt); row = ((valid93, tt), refl, omega arith, omega arith, refl); whole = λ e. absurd (cc) },
        (record { valued = refl; paired = tt; taken = (tt, tt); row = ((tt, tt), refl, omega arith, omega arith, refl); whole = λ e. absurd (cc) }, tt),
      ),
    ),
  );
  text = (refl, ((refl, (refl, (refl, (refl, tt)))), tt), refl);
  gaps = refl;
  rodata = (refl, tt, refl);
  «data» = (refl, tt, refl);
  bss = (refl, tt, refl);
}

resolves : Resolves (exit7 ∷ []) exit7_map
resolves = record { globals = refl; once = (refl, tt); entry = refl; even = refl }

sized : Sized (exit7 ∷ []) exit7_map
sized = (
  record {
    sizes = 0 ∷ 0 ∷ 0 ∷ 4 ∷ 4 ∷ 4 ∷ [];
    has = ((λ e. refl), ((λ e. refl), (refl, (refl, (refl, (refl, tt))))));
    least = settled_least (located_from 1 1 (at_start exit7) exit7) (0 ∷ 0 ∷ 0 ∷ 4 ∷ 4 ∷ 4 ∷ []) refl;
  },
  tt,
)

-- it has no call: what could change is the start of its text, which is kept
closed : IsClosed (sites_of (exit7 ∷ []) exit7_map) (0 ∷ [])
closed = record { family = record { same_length = refl; offered = offers }; closed = none }
  where
    offers : (i : ℕ) → Offers (site_at (sites_of (exit7 ∷ []) exit7_map) i).kind (slice_index (0 ∷ []) i)
    offers zero = refl
    offers (suc i) = refl

    none : (i shorter : ℕ) → MayShorten (sites_of (exit7 ∷ []) exit7_map) (0 ∷ []) i shorter → ⊥
    none zero shorter h = absurd h.reaching
    none (suc i) shorter h = absurd h.reaching

in_line : IsText (sites_of (exit7 ∷ []) exit7_map)
in_line = record { in_order = (omega arith, tt); outside = outside }
  where
    outside : (i j : ℕ) → LeadsOutside (site_at (sites_of (exit7 ∷ []) exit7_map) i).kind (site_at (sites_of (exit7 ∷ []) exit7_map) j)
    outside zero j = tt
    outside (suc i) j = tt

-- none of its statements is a call
no_call : {A : Type 0} → IsTrue false → A
no_call c = absurd (let e : false ≡ true = c in cc)

bytes : (size : ℕ → ℕ) → HaveBytes size (text_of (exit7 ∷ []) exit7_map)
bytes size = ((λ c. no_call c), ((λ c. no_call c), ((λ c. no_call c), ((λ c. no_call c), tt))))

shortened : (relax : Bool) → Shortened relax (exit7 ∷ []) exit7_map
shortened false = bytes (λ offset. 8)
shortened true = (
  0 ∷ [],
  shortened_greatest (sites_of (exit7 ∷ []) exit7_map) in_line (0 ∷ []) 0 Unchanged closed,
  bytes (size_at (sites_of (exit7 ∷ []) exit7_map) (0 ∷ [])),
)

pub links : (relax gc : Bool) → IsLinked (exit7 ∷ []) 0x10000 relax gc exit7_linked
links relax gc = record {
  collected = collected gc;
  fits = fits;
  sized = sized;
  shortened = shortened relax;
  resolves = resolves;
  code = code_words exit7 exit7_map;
  written = (
    (λ code. record { ps = []; are_parts = refl; lines = []; are_lines = (refl, refl); sizes = tt; encoded = refl }),
    (
      (λ code. record {
        ps = Closed first ∷ [];
        are_parts = refl;
        lines = record { address = 0x10000; bytes = 4; instruction = first } ∷ [];
        are_lines = (refl, (refl, refl));
        sizes = (refl, tt);
        encoded = (little_endian 4 (word (form first)), ([], refl, inl (refl, refl), refl));
      }),
      (
        (λ code. record {
          ps = Closed second ∷ [];
          are_parts = refl;
          lines = record { address = 0x10004; bytes = 4; instruction = second } ∷ [];
          are_lines = (refl, (refl, refl));
          sizes = (refl, tt);
          encoded = (little_endian 4 (word (form second)), ([], refl, inl (refl, refl), refl));
        }),
        (
          (λ code. record {
            ps = Closed Ecall ∷ [];
            are_parts = refl;
            lines = record { address = 0x10008; bytes = 4; instruction = Ecall } ∷ [];
            are_lines = (refl, (refl, refl));
            sizes = (refl, tt);
            encoded = (little_endian 4 (word (form Ecall)), ([], refl, inl (refl, refl), refl));
          }),
          tt,
        ),
      ),
    ),
  );
  below = omega arith;
  text = refl;
  rodata = refl;
  «data» = refl;
}

pub executes : (reader : Reader Spells StandsFor) → machine_run reader (mem_of exit7_image) 0x10000 [] 1000000 ≡ exits 7
executes reader =
    let run : source_run (exit7 ∷ []) exit7_map [] 1000000 ≡ exits 7 = refl in
    elim (linked_agrees 0x10000 (exit7 ∷ []) true true exit7_linked (links true true) reader [] tt 1000000) [
      | inl same ↦ sym same ∙ run
      | inr (astray, front) ↦ absurd (let bad : Exited 7 ≡ Astray = astray in cc)
    ]
