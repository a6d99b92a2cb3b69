-- What a reader must believe: the definitions that public contracts rest on, in the order to read them in, and beside them only the capacities and extents
-- that contracts inside lean on.
pub mod Layout
pub mod Extents
pub mod Records
pub mod Field
pub mod HeadFields
pub mod TimeFields
pub mod NodeFields
pub mod ArcFields
pub mod StationFields
pub mod Leftover
pub mod StationArcs
pub mod StationNodes
pub mod ArcEnds
pub mod OneStation
pub mod StationSize
pub mod Directions
pub mod States
pub mod Judged
pub mod LayoutOf
