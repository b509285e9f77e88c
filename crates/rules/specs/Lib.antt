pub mod Rules
pub mod RuleLaws
pub mod Told
