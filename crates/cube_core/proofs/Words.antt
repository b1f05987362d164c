-- Words of the specs that most proofs use.
pub use Rattle.cube_core.specs.Shape.{Sizes, sample_count, AreSizes}
pub use Rattle.cube_core.specs.Kind.{SampleKind, IsSample, sample_of, IsKind, smax, smin, smid}
pub use Rattle.cube_core.specs.Image.{index_in, Image, IsCube, put}
unfoldable pub use Rattle.cube_core.specs.Image.{sample_at}
pub use Rattle.cube_core.specs.Order.{IsOrder, IsPlaceOf, IsBefore, place_key, from, upto, group, group_size, group_count, goes_along_rows}
unfoldable pub use Rattle.cube_core.specs.Order.{place_index, places}
pub use Rattle.cube_core.specs.Layout.{IsLayout, order_of, twos_complement, raw_value, bytes_at, HasBytes, HaveBytes, raw_code, HasBytesAt, raw_number}
unfoldable pub use Rattle.cube_core.specs.Layout.{sample_bytes, raw_bytes, samples_in}
pub use Rattle.cube_core.specs.Scale.{StandsFor, SpellOffset, half_of, zero_offset, number_of_rebased}
pub use Rattle.cube_core.specs.Raw.{AreSamples, IsBadSample, IsFound}
pub use Rattle.cube_core.specs.Pieces.{CanBeWritten, sample_by}
pub use Rattle.cube_core.specs.Parts.{IsPieceOf, IsPart, IsReadAt, AreReadTo, IsWrittenAt, AreWrittenTo, unit_of, unit_count, first_sample, part_samples}
pub use Rattle.cube_core.specs.Offsets.{AreOffsets, AreRowOffsets}
unfoldable pub use Rattle.cube_core.specs.Offsets.{samples_of}
pub use Rattle.cube_core.specs.Cursor.{IsSpot, IsWalk}
unfoldable pub use Rattle.cube_core.specs.Cursor.{places_left}
pub use Rattle.cube_core.specs.declared.order.Place.{Place}
pub use Rattle.cube_core.specs.declared.order.Order.{Order}
pub use Rattle.cube_core.specs.declared.order.Order.TheVariants.{Bsq, Bi}
pub use Rattle.cube_core.specs.declared.layout.Layout.{Layout}
pub use Rattle.cube_core.specs.declared.layout.RawOrder.{RawOrder}
pub use Rattle.cube_core.specs.declared.cursor.Spot.{Spot}
pub use Rattle.std.proofs.lemmas.Int.{ints}
pub use Rattle.std.specs.List.{flat_map, slice_get}
pub use Rattle.cube_core.specs.Along.{HasCome}
pub use Rattle.std.specs.Prelude.{if◌then◌else◌, ◌&&◌}
