-- The lane to which each end of a ring belongs.
use Rattle.rtrb.specs.declared.producer.Producer.{Producer}
use Rattle.rtrb.specs.declared.consumer.Consumer.{Consumer}
use Rattle.band_rings.specs.Lane.{LaneName}

module _ {T A P : Type 0} where
  abbrev pub name_of_producer : Producer T A P → LaneName
  name_of_producer p = record { words = p.end.words; slots = p.end.slots; names = p.end.names }

  abbrev pub name_of_consumer : Consumer T A P → LaneName
  name_of_consumer c = record { words = c.end.words; slots = c.end.slots; names = c.end.names }
