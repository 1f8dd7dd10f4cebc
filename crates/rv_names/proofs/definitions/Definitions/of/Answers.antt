use Rattle.std.proofs.Common.{map}
use Rattle.rv_object_types.specs.View.{object_of}
use Rattle.rv_names.proofs.LoadingLemmas.{global_definers}
use Rattle.rv_names.proofs.definitions.Definitions.of.Goals as goal

pub returns-clause-answers : goal.returns-clause-answers
returns-clause-answers c = c.in_ok-put_weak.ensures (global_definers (map object_of c.args.objects.now)) c.in_ok-definitions.ensures.answers
