pub mod ConditionLaws
pub mod Drafts
pub mod Grammar
pub mod Lexer
pub mod Owned
pub mod Reading
pub mod Tokens
