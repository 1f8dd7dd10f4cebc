use Rattle.std.proofs.Common.{◌≡◌, ℕ, List, ◌++◌, drop, ap, ◌∙◌}
use Rattle.std.specs.List.{flat_map}
use Rattle.byteorder.specs.Endian.{little_bytes}
use Rattle.rv_states.specs.Snapshot.{words}
use Rattle.rv_states.proofs.WordsLemmas.{written_words, written_rest}
use Rattle.rv_states.proofs.snapshot_writing.joined.Goals as goal

module _ (c : goal.In_ok-extend_from_slice-2) where
  whole : c.extend_from_slice-2.new.self.items ≡ flat_map (little_bytes 8) c.args.numbers.now ++ c.args.pieces.now
  whole =
      c.in_ok-extend_from_slice-2.ensures.items
      ∙ ap (λ (l : List ℕ). l ++ c.args.pieces.now)
      (c.in_ok-extend_from_slice.ensures.items ∙ ap (λ (l : List ℕ). l ++ c.write_u64_into.new.dst) c.in_ok-bytes.ensures.items ∙ c.write_u64_into.ensures)

pub returns-clause-head : goal.returns-clause-head
returns-clause-head c = ap (words 37) (whole c) ∙ written_words 37 c.args.numbers.now c.args.pieces.now c.told-numbers c.fits-numbers

pub returns-clause-rest : goal.returns-clause-rest
returns-clause-rest c = ap (drop 296) (whole c) ∙ written_rest 37 c.args.numbers.now c.args.pieces.now c.told-numbers
