-- The entry in unused places of an array.
use Rattle.queue_state.specs.declared.Item.TheVariants.{Child}
use Rattle.queue_state.specs.declared.Entry.{Entry}

abbrev pub no_entry : Entry
no_entry = record { rank = 0; item = Child 0 }
