pub mod Affixes
pub mod Characters
pub mod Codes
pub mod Left
pub mod Seams
pub mod RisingRows
pub mod SignedTables
pub mod TokenCharacters
