use Rattle.rv_archive_laws.proofs.OneReadingLemmas as readings
use Rattle.rv_archive_laws.proofs.law.one_archive.Goals as goal

pub returns : goal.returns
returns c = readings.one_reading
