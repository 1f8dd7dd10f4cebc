-- What the nodes of the code stand for.
pub mod Nodes
-- What the expressions of the code stand for.
pub mod Expr
-- What the values of the code stand for.
pub mod Eval
