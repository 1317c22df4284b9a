mod JudgeLaw
mod Reading
