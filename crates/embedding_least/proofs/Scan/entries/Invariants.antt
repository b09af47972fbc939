-- The entries from t on are computed, and the rows of the last scan are right.
use Rattle.std.specs.Prelude.{◌≡◌, ◌≤◌, length}
use Rattle.embedding_program.specs.InnerTables.{Scanned}
use Rattle.embedding_program.specs.InnerMeaning.{Entries}
use Rattle.embedding_least.proofs.Scan.entries.Given as goal

abbrev pub invariant-loop-t : goal.invariant-loop-t
invariant-loop-t l =
    record {
      places : length l.row ≡ 64;
      done : Entries l.family.best.now l.family.kids.now l.family.ends.now l.target l.t l.count l.row;
      above : l.t ≤ l.self.low;
      scanned : Scanned l.family.best.now l.family.kids.now l.family.ends.now l.self.rows l.self.low l.self.hi;
    }
