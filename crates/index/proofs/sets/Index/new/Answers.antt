use Rattle.columns.specs.declared.column.Column.{Column}
use Rattle.index.specs.declared.sets.TaskSets.{TaskSets}
use Rattle.index.specs.declared.sets.ThreadSets.{ThreadSets}
use Rattle.index.proofs.Empty.{empty_sets}
use Rattle.index.proofs.sets.Index.new.Goals as goal

pub returns : goal.returns
returns c =
    let h = c.empty-none.ensures in
    record {
      own = λ k i l. empty_sets (λ (s : ThreadSets). s.own) 64 _ _ h _ k i l;
      unlooped = λ k i l. empty_sets (λ (s : ThreadSets). s.unlooped) 64 _ _ h _ k i l;
      attaches = λ k i l. empty_sets (λ (s : ThreadSets). s.attaches) 64 _ _ h _ k i l;
      forked = λ k i l. empty_sets (λ (s : ThreadSets). s.forks) 64 _ _ h _ k i l;
      exits = λ k i l. empty_sets (λ (s : ThreadSets). s.exits) 64 _ _ h _ k i l;
      ended = λ k i l. empty_sets (λ (s : ThreadSets). s.ends) 64 _ _ h _ k i l;
      releases = λ k i l. empty_sets (λ (s : Column). s) 64 _ _ h _ k i l;
      enables = λ k i l. empty_sets (λ (s : TaskSets). s.enables) 512 _ _ h _ k i l;
      members = λ k i l. empty_sets (λ (s : TaskSets). s.members) 512 _ _ h _ k i l;
    }
