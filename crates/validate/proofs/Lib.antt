-- The laws of `validate`.
mod Laws
