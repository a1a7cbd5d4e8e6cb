-- That a struct of slices to change still lends the same slices, so that what it says of them is said of the caller's, and that each is as long as
-- it was. Assumes nothing.
use Rattle.std.specs.Prelude.{◌≡◌, length}
use Rattle.table_words.specs.declared.buffers.TableMut.{TableMut}
use Rattle.table_words.specs.declared.buffers.LentState.{LentState}

pub record SameTable (before : TableMut) (after : TableMut) : Type 0 where
  pub ends : after.ends.ghost_name ≡ before.ends.ghost_name
  pub rests : after.rests.ghost_name ≡ before.rests.ghost_name
  pub ends_length : length after.ends.now ≡ length before.ends.now
  pub rests_length : length after.rests.now ≡ length before.rests.now

pub record SameState (before : LentState) (after : LentState) : Type 0 where
  pub ends : after.ends.ghost_name ≡ before.ends.ghost_name
  pub rests : after.rests.ghost_name ≡ before.rests.ghost_name
  pub queue : after.queue.ghost_name ≡ before.queue.ghost_name
  pub ends_length : length after.ends.now ≡ length before.ends.now
  pub rests_length : length after.rests.now ≡ length before.rests.now
  pub queue_length : length after.queue.now ≡ length before.queue.now
