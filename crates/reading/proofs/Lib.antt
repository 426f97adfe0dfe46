pub mod ChainLaws
pub mod WholeLaws
pub mod FunctionLoop
pub mod RuleLaws
pub mod RuleLoop
