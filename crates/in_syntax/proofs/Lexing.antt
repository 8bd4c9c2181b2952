-- From bytes to tokens.
pub mod Cursors
pub mod Known
pub mod Lexemes
pub mod Moves
pub mod PastCharacters
pub mod Reading
pub mod Standing
pub mod TextLaws
pub mod TokenLaws
pub mod TokenSteps
