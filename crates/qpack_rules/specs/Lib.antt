-- laws of the dynamic table: its window, and its marks (sections 2.1 and 3.2)
pub mod WindowLaws
pub mod TableLaws
-- what strict ends take of the instruction streams (sections 4.2 to 4.4)
pub mod Taking
pub mod StrictInstructions
pub mod WantedLaws
-- sessions of two ends, and the rules for any lawful peer
pub mod Session
pub mod SessionLaws
pub mod LawfulStreams
pub mod LawfulEncoders
pub mod LawfulDecoders
