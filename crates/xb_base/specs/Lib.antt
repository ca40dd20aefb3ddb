pub use Rattle.xb_values.specs.Prefixes
pub use Rattle.xb_values.specs.Texts
pub use Rattle.xb_values.specs.Readers
pub use Rattle.xb_values.specs.Buffers
pub use Rattle.xb_values.specs.Parts
pub use Rattle.xb_wire.specs.Messages
pub use Rattle.xb_wire.specs.Headers
pub use Rattle.xb_wire.specs.Fronts
pub use Rattle.xb_wire.specs.Views as WireViews
pub use Rattle.xb_io.specs.Causes
pub use Rattle.xb_io.specs.Memories
pub use Rattle.xb_io.specs.Entries
pub use Rattle.xb_io.specs.Pages
pub use Rattle.xb_domain.specs.Events
pub use Rattle.xb_domain.specs.Outputs
pub use Rattle.xb_domain.specs.Points
pub use Rattle.xb_domain.specs.Views as DomainViews
