-- from worlds to relations and back
pub mod Worlds
-- two entries that exclude each other
pub mod Pairs
-- a relation's answer, under the question of its needs and limits alone
pub mod Alone
-- slots that are taken greedily
pub mod Greedy
-- how the largest sets of promises come to be listed
pub mod Largest
-- a core of a set of promises that cannot be kept
pub mod Cores
-- what the functions that call each other hand to each other
pub mod Calls
-- the question through two sets
pub mod Sets
